use Rattle.std.proofs.Common.{◌+◌, ◌∙◌}
use Rattle.std.specs.Prelude.{codes}
use Rattle.std.specs.Fmt.{decimal}
use Rattle.std.proofs.lemmas.Result.{err_from_is_err_and}
use Rattle.tuple_text.proofs.Writing.{error_second, second_part}
use Rattle.trace_text.specs.Frames.{party_text, mode_text}
use Rattle.trace_text.proofs.Chained.{then_more, then_same, then_two}
use Rattle.trace_text.proofs.frames.put_replied.Goals as goal

pub returns : goal.returns
returns c =
    let old = c.args.out.now.items in
    let reply = c.args.reply.now in
    let first = then_two old c.put_party.new.out.items c.put_party-2.new.out.items _ (codes " client ") (party_text (256 + reply.client.number)) c.in_ok-put_party.ensures c.in_ok-put_party-2.ensures in
    let second = then_two old c.put_party-2.new.out.items c.put_number.new.out.items _ (codes " time ") (decimal reply.timestamp.0) first c.in_ok-put_number.ensures in
    let third = then_more old c.put_number.new.out.items c.append.new.out.items _ (codes " ") second c.in_ok-append.ensures in
    let fourth = then_same old c.append.new.out.items c.append-2.new.out.items _ _ (mode_text reply.kind) third c.in_ok-append-2.ensures (c.as_bytes.ensures.value ∙ c.mode_name.ensures) in
    let fifth = then_two old c.append-2.new.out.items c.put_number-2.new.out.items _ (codes " number ") (decimal reply.number.0) fourth c.in_ok-put_number-2.ensures in
    second_part c.append-3.result old c.put_number-2.new.out.items _ (codes " ") c.append-3.new.out.items fifth c.append-3.ensures

pub returns-in_err-append-2 : goal.returns-in_err-append-2
returns-in_err-append-2 c =
    let p = err_from_is_err_and c.from_residual-in_err-append-2.result c.from_residual-in_err-append-2.ensures.1 in
    let old = c.args.out.now.items in
    let reply = c.args.reply.now in
    let first = then_two old c.put_party.new.out.items c.put_party-2.new.out.items _ (codes " client ") (party_text (256 + reply.client.number)) c.in_ok-put_party.ensures c.in_ok-put_party-2.ensures in
    let second = then_two old c.put_party-2.new.out.items c.put_number.new.out.items _ (codes " time ") (decimal reply.timestamp.0) first c.in_ok-put_number.ensures in
    let third = then_more old c.put_number.new.out.items c.append.new.out.items _ (codes " ") second c.in_ok-append.ensures in
    rw (p.1) (error_second old _ c.append.new.out.items c.append-2.new.out.items third c.in_err-append-2.ensures)

pub returns-in_err-put_number-2 : goal.returns-in_err-put_number-2
returns-in_err-put_number-2 c =
    let p = err_from_is_err_and c.from_residual-in_err-put_number-2.result c.from_residual-in_err-put_number-2.ensures.1 in
    let old = c.args.out.now.items in
    let reply = c.args.reply.now in
    let first = then_two old c.put_party.new.out.items c.put_party-2.new.out.items _ (codes " client ") (party_text (256 + reply.client.number)) c.in_ok-put_party.ensures c.in_ok-put_party-2.ensures in
    let second = then_two old c.put_party-2.new.out.items c.put_number.new.out.items _ (codes " time ") (decimal reply.timestamp.0) first c.in_ok-put_number.ensures in
    let third = then_more old c.put_number.new.out.items c.append.new.out.items _ (codes " ") second c.in_ok-append.ensures in
    let fourth = then_more old c.append.new.out.items c.append-2.new.out.items _ _ third c.in_ok-append-2.ensures in
    rw (p.1) (error_second old _ c.append-2.new.out.items c.put_number-2.new.out.items fourth c.in_err-put_number-2.ensures)

use Rattle.std.proofs.Common.{ap}
use Rattle.std.specs.Prelude.{codes}
use Rattle.std.specs.Fmt.{decimal}
use Rattle.tuple_text.proofs.Writing.{second_part}
use Rattle.trace_text.specs.Shown.{senders_shown}
use Rattle.trace_text.proofs.Chained.{then_same, then_two}
use Rattle.trace_text.proofs.frames.put_started.Goals as goal

pub returns : goal.returns
returns c =
    let old = c.args.out.now.items in
    let first = then_same old c.put_opened.new.out.items c.put_senders.new.out.items _ _ _ c.in_ok-put_opened.ensures c.in_ok-put_senders.ensures (ap senders_shown c.as_slice.ensures.value) in
    let second = then_two old c.put_senders.new.out.items c.put_number.new.out.items _ (codes " start ") (decimal c.args.new.now.start.0) first c.in_ok-put_number.ensures in
    second_part c.append.result old c.put_number.new.out.items _ (codes " root ") c.append.new.out.items second c.append.ensures

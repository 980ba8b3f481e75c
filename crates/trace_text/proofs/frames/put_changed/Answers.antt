use Rattle.std.specs.Prelude.{codes}
use Rattle.std.specs.Fmt.{decimal}
use Rattle.tuple_text.proofs.Writing.{second_part}
use Rattle.trace_text.proofs.Chained.{then_two}
use Rattle.trace_text.proofs.frames.put_changed.Goals as goal

pub returns : goal.returns
returns c =
    let old = c.args.out.now.items in
    let first = then_two old c.put_party.new.out.items c.put_number.new.out.items _ (codes " view ") (decimal c.args.view) c.in_ok-put_party.ensures c.in_ok-put_number.ensures in
    let second = then_two old c.put_number.new.out.items c.put_number-2.new.out.items _ (codes " low ") (decimal c.args.low) first c.in_ok-put_number-2.ensures in
    second_part c.append.result old c.put_number-2.new.out.items _ (codes " checkpoints ") c.append.new.out.items second c.append.ensures

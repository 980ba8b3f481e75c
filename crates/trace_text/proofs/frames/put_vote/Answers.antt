use Rattle.tuple_text.proofs.Writing.{second_part}
use Rattle.trace_text.proofs.Chained.{then_more}
use Rattle.trace_text.proofs.frames.put_vote.Goals as goal

pub returns : goal.returns
returns c =
    second_part c.put_short.result c.args.out.now.items c.append.new.out.items _ _ c.put_short.new.out.items
    (then_more c.args.out.now.items c.put_of_view.new.out.items c.append.new.out.items _ _ c.in_ok-put_of_view.ensures c.in_ok-append.ensures)
    c.put_short.ensures

use Rattle.tuple_text.proofs.Writing.{second_part}
use Rattle.trace_text.proofs.frames.put_reply.Goals as goal

pub returns : goal.returns
returns c =
    second_part c.put_answer.result c.args.out.now.items c.put_replied.new.out.items _ _ c.put_answer.new.out.items c.in_ok-put_replied.ensures c.put_answer.ensures

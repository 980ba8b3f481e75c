use Rattle.trace_text.proofs.Appended.{appended}
use Rattle.trace_text.proofs.putting.put_answer.Goals as goal

pub returns : goal.returns
returns c = appended c.write_answer.result c.args.out.now.items _ c.write_answer.new.out.items c.write_answer.ensures.ok c.write_answer.ensures.err

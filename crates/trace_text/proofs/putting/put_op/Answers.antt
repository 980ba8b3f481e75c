use Rattle.trace_text.proofs.Appended.{appended}
use Rattle.trace_text.proofs.putting.put_op.Goals as goal

pub returns : goal.returns
returns c = appended c.write_op.result c.args.out.now.items _ c.write_op.new.out.items c.write_op.ensures.ok c.write_op.ensures.err

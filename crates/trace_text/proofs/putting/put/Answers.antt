use Rattle.std.proofs.Common.{[], append-nil, sym}
use Rattle.trace_text.proofs.putting.put.Goals as goal

pub returns-in-Err : goal.returns-in-Err
returns-in-Err c line h = ([], sym (append-nil c.args.out.now.items))

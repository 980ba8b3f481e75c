use Rattle.std.proofs.Common.{◌∙◌, arith}
use Rattle.tuple_text.proofs.Writing.{kept}
use Rattle.tuple_text.proofs.write.write_tuple.Goals as goal

pub returns-in-Err-clause-err : goal.returns-in-Err-clause-err
returns-in-Err-clause-err g c =
    c.truncate.ensures.items ∙ kept c.args.out.now.items c.put_tuple.new.out.items c.len-old_len.result (omega arith) c.in-Err.ensures

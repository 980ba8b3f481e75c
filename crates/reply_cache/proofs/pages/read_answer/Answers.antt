use Rattle.std.proofs.Common.{length, subst, sym, arith}
use Rattle.std.proofs.lemmas.List.{take_all}
use Rattle.tuple_codec.specs.Spelling.{SpellsOutcome}
use Rattle.reply_cache.proofs.pages.read_answer.Goals as goal

pub returns-in-Err-clause-only : goal.returns-in-Err-clause-only
returns-in-Err-clause-only c r spells =
    (c.in-Err.ensures {u = tt}).only r (length c.args.bytes.now) (omega arith) (subst (λ bs. SpellsOutcome bs r) (sym (take_all (length c.args.bytes.now) c.args.bytes.now (omega arith))) spells)

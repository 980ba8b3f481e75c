use Rattle.std.proofs.Common.{ℕ, List, length, sym, subst, arith}
use Rattle.std.proofs.Math.Seq.{take-length}
use Rattle.tuple_codec.specs.Spelling.{SpellsOutcome}
use Rattle.client_cert.proofs.receiving.answer_in.Goals as goal

pub unreachable-requires : goal.unreachable-requires
unreachable-requires c =
    let text = c.args.text.now in
    let P : List ℕ → Type 0 = λ front. SpellsOutcome front c.requires.0 in
    let each = c.in-Err-Malformed.ensures.only c.requires.0 (length text) (omega arith) (subst P (sym (take-length text)) c.requires.1) in
    let k : ⊥ = cc in k

pub returns-in-Ok : goal.returns-in-Ok
returns-in-Ok c said spelled =
    let text = c.args.text.now in
    let P : List ℕ → Type 0 = λ front. SpellsOutcome front said in
    let same = c.in-Ok.ensures.only said (length text) (omega arith) (subst P (sym (take-length text)) spelled) in
    same.0

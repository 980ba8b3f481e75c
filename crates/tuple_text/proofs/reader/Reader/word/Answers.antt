use Rattle.std.proofs.Common.{◌≡◌, ℕ, zero, suc, ◌<◌, List, [], ◌∷◌, length, drop, refl, arith, sym, ◌∙◌}
use Rattle.tuple_text.specs.Reading.{word, stop}
use Rattle.tuple_text.specs.declared.reader.Stop.TheVariants.{BadByte}
use Rattle.tuple_text.proofs.reader.Reader.word.Goals as goal

no_bytes : (cs bs : List ℕ) (i : ℕ) → i < length cs → length bs < 1 → word (drop i cs) bs ≡ stop BadByte bs
no_bytes [] bs i h e = absurd (omega arith)
no_bytes (c ∷ cs) (b ∷ bs) i h e = absurd (omega arith)
no_bytes (c ∷ cs) [] zero h e = refl
no_bytes (c ∷ cs) [] (suc i) h e = no_bytes cs [] i (omega arith) e

pub returns-in-empty : goal.returns-in-empty
returns-in-empty c = sym c.loop-letter.invariant ∙ no_bytes c.args.letters.now c.loop-letter.self.rest.now c.loop-letter.letter-index (omega arith) (omega arith)

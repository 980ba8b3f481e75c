-- Texts that are appended one after another.
use Rattle.std.proofs.Common.{◌≡◌, ℕ, List, ◌++◌, ap, sym, ◌∙◌, append_assoc}

-- one text after those before it
pub then_more : (old mid new texts text : List ℕ) → mid ≡ old ++ texts → new ≡ mid ++ text → new ≡ old ++ (texts ++ text)
then_more old mid new texts text e h = h ∙ ap (λ t. t ++ text) e ∙ append_assoc old texts text

-- the same if the text is equal to another one
pub then_same : (old mid new texts other text : List ℕ) → mid ≡ old ++ texts → new ≡ mid ++ other → other ≡ text → new ≡ old ++ (texts ++ text)
then_same old mid new texts other text e h same = then_more old mid new texts text e (h ∙ ap (λ t. mid ++ t) same)

-- two texts after those before them
pub then_two : (old mid new texts first second : List ℕ) → mid ≡ old ++ texts → new ≡ mid ++ (first ++ second) → new ≡ old ++ ((texts ++ first) ++ second)
then_two old mid new texts first second e h = then_more old mid new texts (first ++ second) e h ∙ ap (λ t. old ++ t) (sym (append_assoc texts first second))

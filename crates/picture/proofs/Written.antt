-- Characters that are written one after another.
use Rattle.std.proofs.Common.{◌≡◌, ℕ, List, [], ◌∷◌, ◌++◌, ap, sym, ◌∙◌, append_assoc, append-nil}
use Rattle.std.specs.Prelude.{encode_utf8_all, flat_map}
use Rattle.std.proofs.lemmas.Str.{encodes-append}
use Rattle.std.proofs.lemmas.Grind.{flat_map-append}
use Rattle.picture.specs.Escaping.{escaped_character}

-- one more character after those before it
pub one_more : (old out new cs : List ℕ) (c : ℕ) → out ≡ old ++ encode_utf8_all (flat_map escaped_character cs) → new ≡ out ++ encode_utf8_all (escaped_character c) → new ≡ old ++ encode_utf8_all (flat_map escaped_character (cs ++ c ∷ []))
one_more old out new cs c e h =
    h ∙ ap (λ t. t ++ encode_utf8_all (escaped_character c)) e ∙ append_assoc old (encode_utf8_all (flat_map escaped_character cs)) (encode_utf8_all (escaped_character c))
    ∙ ap (λ t. old ++ t) (sym (encodes-append (flat_map escaped_character cs) (escaped_character c)))
    ∙ ap (λ t. old ++ encode_utf8_all t) (ap (λ t. flat_map escaped_character cs ++ t) (sym (append-nil (escaped_character c))) ∙ sym (flat_map-append escaped_character cs (c ∷ [])))

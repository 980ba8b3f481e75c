-- The keys of an array, read one after another.
use Rattle.std.proofs.Common.{◌≡◌, ℕ, zero, suc, ◌+◌, ◌<◌, List, [], ◌∷◌, ◌++◌, length, take, get_or, Option, Some, arith, refl, ap, sym, subst, ◌∙◌}
use Rattle.std.specs.Prelude.{option_and_then}
use Rattle.std.proofs.lemmas.List.{take_more}
use Rattle.toml.specs.Data.{Data, Items, no_items, item, as_array}
use Rattle.toml.specs.View.{view, items_view}
use Rattle.toml.specs.declared.value.Value.{Value}
use Rattle.party_keys.specs.Reading.{AreKeyTexts, IsKeyText}

pushed : (vs : List Value) (keys : List (List ℕ)) (v : Value) (key : List ℕ) → AreKeyTexts (items_view vs) keys → IsKeyText (view v) key → AreKeyTexts (items_view (vs ++ v ∷ [])) (keys ++ key ∷ [])
pushed [] keys v key h e = subst (λ ks. AreKeyTexts (item (view v) no_items) (ks ++ key ∷ [])) (sym h) (e, refl)
pushed (x ∷ vs) [] v key h e = absurd h
pushed (x ∷ vs) (k ∷ keys) v key h e = (h.0, pushed vs keys v key h.1 e)

pub one_more : (vs : List Value) (i : ℕ) (v : Value) (keys after : List (List ℕ)) (key : List ℕ) → i < length vs → v ≡ get_or vs i v → AreKeyTexts (items_view (take i vs)) keys → IsKeyText (view v) key
    → after ≡ keys ++ key ∷ [] → AreKeyTexts (items_view (take (i + 1) vs)) after
one_more vs i v keys after key p e h k a =
    subst (AreKeyTexts (items_view (take (i + 1) vs))) (sym a)
    (subst (λ ws. AreKeyTexts (items_view ws) (keys ++ key ∷ []))
    (sym (take_more vs i v p ∙ ap (λ w. take i vs ++ w ∷ []) (sym e))) (pushed (take i vs) keys v key h k))

-- an array has as many keys as values
pub as_many : (vs : List Value) (keys : List (List ℕ)) → AreKeyTexts (items_view vs) keys → length keys ≡ length vs
as_many [] keys h = ap length h
as_many (v ∷ vs) [] h = absurd h
as_many (v ∷ vs) (key ∷ keys) h = ap suc (as_many vs keys h.1)

-- A value that is no key is in no array of keys.
pub no_key : (vs : List Value) (i : ℕ) (v : Value) → i < length vs → v ≡ get_or vs i v → ((key : List ℕ) → IsKeyText (view v) key → ⊥) → (keys : List (List ℕ)) → AreKeyTexts (items_view vs) keys → ⊥
no_key [] i v p e none keys h = absurd (omega arith)
no_key (x ∷ vs) i v p e none [] h = absurd h
no_key (x ∷ vs) zero v p e none (key ∷ keys) h = none key (subst (λ w. IsKeyText (view w) key) (sym e) h.0)
no_key (x ∷ vs) (suc i) v p e none (key ∷ keys) h = no_key vs i v (omega arith) e none keys h.1

-- The array under a key is found, so another number of keys than its values is wrong.
pub found_array : (o : Option Data) (d : Data) (vs : List Value) → Some d ≡ o → Some (items_view vs) ≡ as_array d
    → (items : Items) → option_and_then as_array o ≡ Some items → items ≡ items_view vs
found_array o d vs e a items h =
    let f : Some (items_view vs) ≡ Some items = a ∙ ap (option_and_then as_array) e ∙ h in
    cc

-- A ring keeps the right keys and codes.
use Rattle.std.proofs.Common.{◌≡◌, refl, ℕ, Bool, true, false, cond, Option, Some, None, ap, subst, ◌∙◌, sym, inl, inr, List, [], Result, Ok, Err}
use Rattle.std.specs.Prelude.{option_map}
use Rattle.std.specs.Option.{option_map_or}
use Rattle.std.proofs.lemmas.Bool.{and_parts, eqb-true}
use Rattle.std.specs.HashMap.{HashMap, get, Updates, IsUnchanged}
use Rattle.std.specs.Map.{lookup}
use Rattle.std.specs.Result.{OnOk, OnErr}
use Rattle.authenticator.specs.Kept.{IsCodeBetween, IsKeyBetween, ValuesFit, KeepsOrTakesText, pair_eq}
use Rattle.authenticator.specs.Keys.{Keys, find_key, key_between, mac_between, shared_mac}
use Rattle.authenticator.specs.Mac.{hmac_of}
use Rattle.authenticator.specs.Made.{IsMadeOf}
use Rattle.authenticator.specs.declared.mac.Key.{Key}
use Rattle.authenticator.specs.declared.ring.CodedText.{CodedText}

pub fit-put : {V S : Type 0} (fits : ℕ → ℕ → V → Type 0) (m n : HashMap (ℕ × ℕ) V S) (from to : ℕ) (it : V)
    → ValuesFit fits m → fits from to it → Updates pair_eq m n (from, to) (Some it) → ValuesFit fits n
fit-put fits m n from to it fit right puts a b x found =
    go (pair_eq (from, to) (a, b)) refl (sym (puts.0 (a, b)) ∙ found)
  where
    go : (same : Bool) → pair_eq (from, to) (a, b) ≡ same → cond same (Some it) (get pair_eq m (a, b)) ≡ Some x → fits a b x
    go true is e =
        let parts = and_parts _ _ is in
        let p : from ≡ a = eqb-true from a parts.0 in
        let q : to ≡ b = eqb-true to b parts.1 in
        let k : it ≡ x = cc in
        subst (fits a b) k (subst (λ i. fits a i it) q (subst (λ i. fits i to it) p right))
    go false is e = fit a b x e

fit-same : {V S : Type 0} (fits : ℕ → ℕ → V → Type 0) (m n : HashMap (ℕ × ℕ) V S) → ValuesFit fits m → IsUnchanged m n → ValuesFit fits n
fit-same fits m n fit same a b x found = fit a b x (ap (lookup (pair_eq (a, b))) (sym same) ∙ found)

-- after a value that fits is put in, or finds no room
pub fit-inserted : {V S R E : Type 0} (fits : ℕ → ℕ → V → Type 0) (m n : HashMap (ℕ × ℕ) V S) (from to : ℕ) (it : V) (r : Result R E)
    → ValuesFit fits m → fits from to it → OnOk r (Updates pair_eq m n (from, to) (Some it)) → OnErr r (IsUnchanged m n) → ValuesFit fits n
fit-inserted fits m n from to it (Ok _) fit right puts _ = fit-put fits m n from to it fit right puts
fit-inserted fits m n from to it (Err _) fit right _ same = fit-same fits m n fit same

-- after a text is taken in place of another, or stays
pub coded-taken : (keys : Keys) (from to : ℕ) (text code : List ℕ) (old new : CodedText) → IsCodeBetween keys from to text code
    → IsCodeBetween keys from to old.text.items old.code → KeepsOrTakesText text code old new → IsCodeBetween keys from to new.text.items new.code
coded-taken keys from to text code old new right was (inl e) = rw (e.0, e.1) right
coded-taken keys from to text code old new right was (inr e) = rw (e.0, e.1) was

-- ---- keys

-- the code under the key that two parties share
pub shared-code : (keys : Keys) (from to : ℕ) (text code bytes : List ℕ) → find_key keys from to ≡ Some bytes → code ≡ hmac_of bytes text
    → Some code ≡ shared_mac keys from to text
shared-code keys from to text code bytes found made = ap Some made ∙ sym (ap (option_map (λ key. hmac_of key text)) found)

-- the code that one party makes for another under it
pub sealing-code : (keys : Keys) (from to : ℕ) (text code : List ℕ) → Some code ≡ shared_mac keys from to text → code ≡ mac_between keys from to text
unfolding key_between
sealing-code keys from to text code is = go (find_key keys from to) is
  where
    go : (found : Option (List ℕ)) → Some code ≡ option_map (λ key. hmac_of key text) found → code ≡ hmac_of (option_map_or (λ key. key) found []) text
    go None e = absurd cc
    go (Some bytes) e = cc

-- without a shared key it is the one under the empty key
pub sealing-none : (keys : Keys) (from to : ℕ) (text code : List ℕ) → None ≡ shared_mac keys from to text → code ≡ hmac_of [] text
    → code ≡ mac_between keys from to text
unfolding key_between
sealing-none keys from to text code is made = go (find_key keys from to) is
  where
    go : (found : Option (List ℕ)) → None ≡ option_map (λ key. hmac_of key text) found → code ≡ hmac_of (option_map_or (λ key. key) found []) text
    go None e = made
    go (Some bytes) e = absurd cc

-- a kept key is made of the bytes under which one party seals for the other
pub is-made : (keys : Keys) (from to : ℕ) (key : Key) → IsKeyBetween keys from to key → IsMadeOf key (key_between keys from to)
unfolding key_between
is-made keys from to key kept = subst (IsMadeOf key) (sym (ap (λ (found : Option (List ℕ)). option_map_or (λ bytes. bytes) found []) kept.1)) kept.2

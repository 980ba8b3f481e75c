-- Whether frames are authentic.
use Rattle.std.proofs.Common.{◌≡◌, ℕ, suc, ◌+◌, ◌<◌, Bool, true, false, List, [], length, drop, get_or, refl, sym, ap, ◌∙◌, Bor, drop-cons, add-one, ◌&&◌}
use Rattle.std.specs.Prelude.{is_some}
use Rattle.authenticator.specs.Membership.{Membership}
use Rattle.signing.specs.AuthenticBody.{authentic}
use Rattle.frame_endpoint.specs.Endpoint.{are_authentic}
use Rattle.frame_endpoint.specs.Frames.{slice_texts}

-- the rest of the frames decides
abbrev pub Left : Membership → ℕ → List (Bor (List ℕ)) → ℕ → Type 0
Left m me xs i = are_authentic m me (slice_texts xs) ≡ are_authentic m me (slice_texts (drop i xs))

step : (m : Membership) (me : ℕ) (xs : List (Bor (List ℕ))) (i : ℕ) (z : Bor (List ℕ)) → i < length xs
    → are_authentic m me (slice_texts (drop i xs)) ≡ (is_some (authentic m me (get_or xs i z).now) && are_authentic m me (slice_texts (drop (suc i) xs)))
step m me xs i z l = rw (drop-cons xs i z l) refl

-- the program's test of the next, by members that stay
pub fails : (m n : Membership) → n ≡ m → (me : ℕ) (xs : List (Bor (List ℕ))) (i : ℕ) (z : Bor (List ℕ)) (b : Bool) → i < length xs → b ≡ is_some (authentic n me (get_or xs i z).now)
    → b ≡ false → Left m me xs i → false ≡ are_authentic m me (slice_texts xs)
fails m n same me xs i z b l is fails_here left =
    let here : b ≡ is_some (authentic m me (get_or xs i z).now) = is ∙ ap (λ (x : Membership). is_some (authentic x me (get_or xs i z).now)) same in
    let gone : is_some (authentic m me (get_or xs i z).now) ≡ false = sym here ∙ fails_here in
    let rest : Bool = are_authentic m me (slice_texts (drop (suc i) xs)) in
    sym (left ∙ step m me xs i z l ∙ ap (λ (x : Bool). x && rest) gone)

pub goes_on : (m n : Membership) → n ≡ m → (me : ℕ) (xs : List (Bor (List ℕ))) (i : ℕ) (z : Bor (List ℕ)) (b : Bool) → i < length xs → b ≡ is_some (authentic n me (get_or xs i z).now)
    → b ≡ true → Left m me xs i → Left m me xs (i + 1)
goes_on m n same me xs i z b l is holds_here left =
    let here : b ≡ is_some (authentic m me (get_or xs i z).now) = is ∙ ap (λ (x : Membership). is_some (authentic x me (get_or xs i z).now)) same in
    let there : is_some (authentic m me (get_or xs i z).now) ≡ true = sym here ∙ holds_here in
    let rest : Bool = are_authentic m me (slice_texts (drop (suc i) xs)) in
    left ∙ step m me xs i z l ∙ ap (λ (x : Bool). x && rest) there ∙ ap (λ (k : ℕ). are_authentic m me (slice_texts (drop k xs))) (sym (add-one i))

pub ends : (m : Membership) (me : ℕ) (xs : List (Bor (List ℕ))) (i : ℕ) → drop i xs ≡ [] → Left m me xs i → true ≡ are_authentic m me (slice_texts xs)
ends m me xs i e left = sym (left ∙ ap (λ (ys : List (Bor (List ℕ))). are_authentic m me (slice_texts ys)) e)

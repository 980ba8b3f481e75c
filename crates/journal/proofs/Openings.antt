-- The shares of a new journal, one after another, and the marks of faulty parties.
use Rattle.std.proofs.Common.{◌≡◌, ℕ, zero, suc, ◌+◌, ◌-◌, ◌<◌, ◌≤◌, ◌⊎◌, ⊎_elim, Bool, true, false, cond, ◌||◌, ◌&&◌, not, List, [], ◌∷◌, ◌++◌, length, map, slice_get, Option, Some, refl, sym, ap, ◌∙◌, arith, append_assoc, length-append}
use Rattle.std.specs.Prelude.{unwrap_or, nat_le, nat_lt}
use Rattle.std.specs.List.{range_with_len}
use Rattle.std.proofs.lemmas.Bool.{le-ltb}
use Rattle.std.proofs.lemmas.Bool.Decides.{nat_tests}
use Rattle.std.proofs.lemmas.Option.{slice_get_past}
use Rattle.quorum.specs.Quorum.{member}
use Rattle.protocol.specs.System.Configuration.{Configuration, IsConfiguration, replicas, is_replica, is_client, is_correct, is_correct_replica, is_correct_client}
use Rattle.journal.specs.Carrying.{is_faulty}
use Rattle.journal.specs.Comparing.{AreFaulty}
use Rattle.journal.specs.Histories.{correct_of}
use Rattle.journal.specs.Parts.{Part, fresh}

-- a correct party below 256 is a replica
pub replica_correct : (c : Configuration) (p : ℕ) → p < 256 → is_correct c p ≡ true → is_correct_replica c p ≡ true
replica_correct c p low correct =
    let k : nat_le 256 p ≡ false = grind (arith, nat_tests) in
    left (is_correct_replica c p) (is_correct_client c p) correct (ap (λ (b : Bool). (b && nat_lt p (256 + c.clients)) && not (member c.faulty_clients (p - 256))) k)
  where
    left : (a b : Bool) → (a || b) ≡ true → b ≡ false → a ≡ true
    left true b e none = refl
    left false b e none = sym none ∙ e

-- ---- shares

abbrev shares_of : Configuration → List ℕ → List Part
shares_of c ps = map fresh (correct_of c ps)

one_more : (b : Bool) (p : ℕ) (ps : List ℕ) → map fresh (cond b (p ∷ ps) ps) ≡ map fresh (cond b (p ∷ []) []) ++ map fresh ps
one_more true p ps = refl
one_more false p ps = refl

share_added : (c : Configuration) (p : ℕ) (rest : List ℕ) (old more whole : List Part) → more ≡ old ++ shares_of c (p ∷ []) → old ++ shares_of c (p ∷ rest) ≡ whole → more ++ shares_of c rest ≡ whole
share_added c p rest old more whole is w =
    ap (λ (xs : List Part). xs ++ shares_of c rest) is
    ∙ (append_assoc old (shares_of c (p ∷ [])) (shares_of c rest)
    ∙ (ap (λ (xs : List Part). old ++ xs) (sym (one_more (is_correct c p) p (correct_of c rest))) ∙ w))

range_more : (n end : ℕ) → n < end → range_with_len n (end - n) ≡ n ∷ range_with_len (n + 1) (end - (n + 1))
range_more n end h = let e : end - n ≡ suc (end - (n + 1)) = omega (arith, h) in ap (range_with_len n) e

-- the first of the parties that are left
pub party_added : (c : Configuration) (n end : ℕ) (old more whole : List Part) → n < end → more ≡ old ++ shares_of c (n ∷ [])
    → old ++ shares_of c (range_with_len n (end - n)) ≡ whole → more ++ shares_of c (range_with_len (n + 1) (end - (n + 1))) ≡ whole
party_added c n end old more whole h is w =
    share_added c n (range_with_len (n + 1) (end - (n + 1))) old more whole is (ap (λ (ps : List ℕ). old ++ shares_of c ps) (sym (range_more n end h)) ∙ w)

-- ---- faulty parties, by their numbers

get_front : {A : Type 0} (xs ys : List A) (k : ℕ) → k < length xs → slice_get (xs ++ ys) k ≡ slice_get xs k
get_front [] ys k h = absurd (omega arith)
get_front (x ∷ xs) ys zero h = refl
get_front (x ∷ xs) ys (suc k) h = get_front xs ys k (omega arith)

get_last : {A : Type 0} (xs : List A) (y : A) (k : ℕ) → k ≡ length xs → slice_get (xs ++ y ∷ []) k ≡ Some y
get_last [] y k is = ap (slice_get (y ∷ [])) is
get_last (x ∷ xs) y zero is = absurd (omega arith)
get_last (x ∷ xs) y (suc k) is = get_last xs y k (omega arith)

-- the marks of the first parties
pub record AreMarked (c : Configuration) (n : ℕ) (marks : List Bool) : Type 0 where
  pub count : length marks ≡ n
  pub each : (p : ℕ) → p < n → slice_get marks p ≡ Some (is_faulty c p)

pub marked_more : (c : Configuration) (n : ℕ) (marks more : List Bool) (b : Bool) → b ≡ is_faulty c n → more ≡ marks ++ b ∷ [] → AreMarked c n marks → AreMarked c (n + 1) more
marked_more c n marks more b is longer marked = record {
  count = ap length longer ∙ omega (arith, length-append marks (b ∷ []), marked.count);
  each = λ p below. ap (λ (xs : List Bool). slice_get xs p) longer ∙ ⊎_elim
      (λ (low : p < n). get_front marks (b ∷ []) p (omega (arith, marked.count)) ∙ marked.each p low)
      (λ (high : n ≤ p).
      let at : p ≡ n = omega arith in
      get_last marks b p (omega (arith, marked.count)) ∙ ap Some (is ∙ ap (is_faulty c) (sym at)))
      (order p n);
}
  where
    order : (k n : ℕ) → (k < n) ⊎ (n ≤ k)
    order k n = grind arith

not_party : (c : Configuration) (p : ℕ) → IsConfiguration c → 256 + c.clients ≤ p → is_faulty c p ≡ false
not_party c p valid high =
    let most = valid.most in
    let r : is_replica c p ≡ false = le-ltb p (replicas c) (omega arith) in
    let k : nat_lt p (256 + c.clients) ≡ false = le-ltb p (256 + c.clients) high in
    ap (λ (b : Bool). (b || is_client c p) && not (is_correct c p)) r ∙ (ap (λ (b : Bool). (nat_le 256 p && b) && not (is_correct c p)) k ∙ none (nat_le 256 p) (not (is_correct c p)))
  where
    none : (a b : Bool) → ((a && false) && b) ≡ false
    none true b = refl
    none false b = refl

pub all_marked : (c : Configuration) (n : ℕ) (marks : List Bool) → IsConfiguration c → 256 + c.clients ≤ n → AreMarked c n marks → AreFaulty c marks
all_marked c n marks valid whole marked p =
    ⊎_elim
    (λ (low : p < n). ap (λ (o : Option Bool). unwrap_or o false) (marked.each p low))
    (λ (high : n ≤ p). ap (λ (o : Option Bool). unwrap_or o false) (slice_get_past marks p (omega (arith, marked.count))) ∙ sym (not_party c p valid (omega arith)))
    (order p n)
  where
    order : (k n : ℕ) → (k < n) ⊎ (n ≤ k)
    order k n = grind arith

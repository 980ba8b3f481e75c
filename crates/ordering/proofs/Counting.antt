-- How many replicas vote: the count over a list of votes is the one over the replicas.
use Rattle.std.proofs.Common.{◌≡◌, ℕ, zero, suc, ◌+◌, ◌≤◌, ◌<◌, Bool, true, false, cond, List, [], ◌∷◌, length, Option, Some, None, option_map, find, refl, sym, ap, ◌∙◌, arith, eqb-true, bytes_eq, count_by, ◌==◌}
use Rattle.std.proofs.Math.Numerals.{one-add}
use Rattle.std.proofs.lemmas.Bool.{eqb-false, lt-leb}
use Rattle.std.proofs.lemmas.List.Sums.{count_by-le-length, sum_by-cons}
use Rattle.std.specs.Prelude.{nat_le}
use Rattle.quorum.specs.Quorum.{count_below}
use Rattle.quorum.specs.Votes.{has_digest}
use Rattle.quorum.proofs.Counting.{count_same}
use Rattle.ordering.specs.declared.votes.Vote.{Vote}
use Rattle.ordering.specs.Votes.{voted_digest, AreVotes, voters}

at_most : (f : ℕ → Bool) (n : ℕ) → count_below f n ≤ n
at_most f zero = omega arith
at_most f (suc n) = go (f n) (at_most f n)
  where
    go : (b : Bool) → count_below f n ≤ n → cond b (suc (count_below f n)) (count_below f n) ≤ suc n
    go true h = omega arith
    go false h = omega arith

-- one number more that passes, or not, adds itself to the count
one_more : (p : ℕ → Bool) (a : ℕ) (y : Bool) (n : ℕ) → p a ≡ false
    → (a < n → count_below (λ s. cond (a == s) y (p s)) n ≡ cond y 1 0 + count_below p n) × (n ≤ a → count_below (λ s. cond (a == s) y (p s)) n ≡ count_below p n)
one_more p a y zero h = (λ l. absurd (omega arith), λ l. refl)
one_more p a y (suc n) h = go (a == n) refl (p n) refl y (one_more p a y n h)
  where
    go : (x : Bool) → (a == n) ≡ x → (z : Bool) → p n ≡ z → (w : Bool)
        → (a < n → count_below (λ s. cond (a == s) w (p s)) n ≡ cond w 1 0 + count_below p n) × (n ≤ a → count_below (λ s. cond (a == s) w (p s)) n ≡ count_below p n)
        → (a < suc n → cond (cond x w z) (suc (count_below (λ s. cond (a == s) w (p s)) n)) (count_below (λ s. cond (a == s) w (p s)) n) ≡ cond w 1 0 + cond z (suc (count_below p n)) (count_below p n))
        × (suc n ≤ a → cond (cond x w z) (suc (count_below (λ s. cond (a == s) w (p s)) n)) (count_below (λ s. cond (a == s) w (p s)) n) ≡ cond z (suc (count_below p n)) (count_below p n))
    go true e true f w k = absurd (let is : a ≡ n = eqb-true a n e in let bad : false ≡ true = sym h ∙ ap p is ∙ f in cc)
    go true e false f true k = let is : a ≡ n = eqb-true a n e in let le : n ≤ a = omega arith in let q = k.1 le in (λ l. omega arith, λ l. absurd (omega arith))
    go true e false f false k = let is : a ≡ n = eqb-true a n e in let le : n ≤ a = omega arith in let q = k.1 le in (λ l. omega arith, λ l. absurd (omega arith))
    go false e true f w k = let ne = eqb-false a n e in (λ l. (let m : a < n = omega arith in let q = k.0 m in omega arith), λ l. (let m : n ≤ a = omega arith in let q = k.1 m in omega arith))
    go false e false f w k = let ne = eqb-false a n e in (λ l. (let m : a < n = omega arith in let q = k.0 m in omega arith), λ l. (let m : n ≤ a = omega arith in let q = k.1 m in omega arith))

-- whether there is a vote, and its digest passes
abbrev passes : (List ℕ → Bool) → Option (List ℕ) → Bool
passes test None = false
passes test (Some digest) = test digest

tally : (test : List ℕ → Bool) (n : ℕ) (votes : List Vote) → AreVotes n votes → count_below (λ s. passes test (voted_digest votes s)) n ≡ count_by (λ vote. test vote.digest) votes
tally test n [] h = none n
  where
    none : (n : ℕ) → count_below (λ s. false) n ≡ 0
    none zero = refl
    none (suc n) = none n
tally test n (x ∷ xs) h =
    let out : passes test (voted_digest xs x.sender.0) ≡ false = rw (h.1) refl in
    let one = (one_more (λ s. passes test (voted_digest xs s)) x.sender.0 (test x.digest) n out).0 h.0 in
    let same = count_same (λ s. passes test (option_map (λ (vote : Vote). vote.digest) (cond (x.sender.0 == s) (Some x) (find (λ (vote : Vote). vote.sender.0 == s) xs))))
    (λ s. cond (x.sender.0 == s) (test x.digest) (passes test (voted_digest xs s))) (λ s. into (x.sender.0 == s) s) n in
    same ∙ one ∙ ap (λ m. cond (test x.digest) 1 0 + m) (tally test n xs h.2) ∙ sym (sum_by-cons (λ (vote : Vote). cond (test vote.digest) 1 0) x xs)
  where
    into : (b : Bool) (s : ℕ) → passes test (option_map (λ (vote : Vote). vote.digest) (cond b (Some x) (find (λ (vote : Vote). vote.sender.0 == s) xs))) ≡ cond b (test x.digest) (passes test (voted_digest xs s))
    into true s = refl
    into false s = refl

pub voters_count : (n : ℕ) (digest : List ℕ) (votes : List Vote) → AreVotes n votes → voters n digest votes ≡ count_by (λ vote. bytes_eq digest vote.digest) votes
voters_count n digest votes h = count_same (λ s. has_digest digest (voted_digest votes s)) (λ s. passes (bytes_eq digest) (voted_digest votes s)) (λ s. same (voted_digest votes s)) n ∙ tally (bytes_eq digest) n votes h
  where
    same : (vote : Option (List ℕ)) → has_digest digest vote ≡ passes (bytes_eq digest) vote
    same None = refl
    same (Some d) = refl

-- fewer votes than so many are not so many for any digest
pub too_few : (n least : ℕ) (digest : List ℕ) (votes : List Vote) → AreVotes n votes → length votes < least → nat_le least (voters n digest votes) ≡ false
too_few n least digest votes h l = lt-leb least (voters n digest votes) below
  where
    below : voters n digest votes < least
    below =
        let is = voters_count n digest votes h in
        let most = count_by-le-length (λ (vote : Vote). bytes_eq digest vote.digest) votes in
        omega (arith, is, most, l)

-- there are no more votes than replicas
pub no_more : (n : ℕ) (votes : List Vote) → AreVotes n votes → length votes ≤ n
no_more n votes h = let c = tally (λ d. true) n votes h in let m = at_most (λ s. passes (λ d. true) (voted_digest votes s)) n in let a = all votes in omega arith
  where
    all : (votes : List Vote) → count_by (λ (vote : Vote). true) votes ≡ length votes
    all [] = refl
    all (x ∷ xs) = sum_by-cons (λ (vote : Vote). 1) x xs ∙ one-add (count_by (λ (vote : Vote). true) xs) ∙ ap suc (all xs)

-- The order of the choice between batches for a number.
use Rattle.std.specs.Prelude.{nat_lt}
use Rattle.std.proofs.Common.{◌≡◌, ℕ, ◌<◌, ◌⊎◌, inl, inr, Bool, true, false, cond, not, List, refl, arith, ◌&&◌, ◌||◌}
use Rattle.std.proofs.lemmas.Bool.{and_parts, and_from, or_cases, or_left, or_right, lt-ltb, ltb-true, ltb-false, false_from_ne_true}
use Rattle.protocol.specs.System.Configuration.{Configuration}
use Rattle.wire_format.specs.Messages.{ViewChangeData}
use Rattle.wire_format.specs.Spelling.{bytes_before}
use Rattle.pq_sets.proofs.ByteOrder.{bytes_trans, bytes_irreflexive}
use Rattle.view_change.specs.Selecting.{stands_by_entry, latest_of, is_prepared_in, precedes, outranks, goes_before}

-- ---- by prepared digests

prepared_trans : (p q r b d e : Bool) → cond p (not q || b) (not q && b) ≡ true → cond q (not r || d) (not r && d) ≡ true → (b ≡ true → d ≡ true → e ≡ true)
    → cond p (not r || e) (not r && e) ≡ true
prepared_trans true true true b d e h k f = f h k
prepared_trans true q false b d e h k f = refl
prepared_trans true false true b d e h k f = absurd cc
prepared_trans false true r b d e h k f = absurd cc
prepared_trans false false true b d e h k f = absurd cc
prepared_trans false false false b d e h k f = f h k

prepared_self : (p b : Bool) → b ≡ false → cond p (not p || b) (not p && b) ≡ false
prepared_self true b h = h
prepared_self false b h = h

precedes_trans : (set : List (ℕ × ViewChangeData)) (n : ℕ) (d e g : List ℕ) → precedes set n d e ≡ true → precedes set n e g ≡ true → precedes set n d g ≡ true
precedes_trans set n d e g h k =
    prepared_trans (is_prepared_in set n d) (is_prepared_in set n e) (is_prepared_in set n g) (bytes_before d e) (bytes_before e g) (bytes_before d g) h k (bytes_trans d e g)

precedes_self : (set : List (ℕ × ViewChangeData)) (n : ℕ) (d : List ℕ) → precedes set n d d ≡ false
precedes_self set n d = prepared_self (is_prepared_in set n d) (bytes_before d d) (false_from_ne_true (bytes_before d d) (bytes_irreflexive d))

-- ---- by views

abbrev Outranks : Configuration → List (ℕ × ViewChangeData) → ℕ → List ℕ → List ℕ → Type 0
Outranks c set n d e =
    (latest_of c set n e set < latest_of c set n d set) ⊎ ((latest_of c set n d set ≡ latest_of c set n e set) × (precedes set n d e ≡ true))

by_views : (v w : ℕ) (b : Bool) → cond (nat_lt w v) true (cond (nat_lt v w) false b) ≡ true → (w < v) ⊎ ((v ≡ w) × (b ≡ true))
by_views v w b h = go (nat_lt w v) refl (nat_lt v w) refl h
  where
    go : (s : Bool) → nat_lt w v ≡ s → (t : Bool) → nat_lt v w ≡ t → cond s true (cond t false b) ≡ true → (w < v) ⊎ ((v ≡ w) × (b ≡ true))
    go true e t f h = inl (ltb-true w v e)
    go false e true f h = absurd cc
    go false e false f h = let x = ltb-false w v e in let y = ltb-false v w f in inr (omega arith, h)

of_views : (v w : ℕ) (b : Bool) → (w < v) ⊎ ((v ≡ w) × (b ≡ true)) → cond (nat_lt w v) true (cond (nat_lt v w) false b) ≡ true
of_views v w b (inl l) = let e : nat_lt w v ≡ true = lt-ltb w v l in rw e refl
of_views v w b (inr h) = go (nat_lt w v) refl (nat_lt v w) refl
  where
    go : (s : Bool) → nat_lt w v ≡ s → (t : Bool) → nat_lt v w ≡ t → cond s true (cond t false b) ≡ true
    go true e t f = refl
    go false e true f = let x = ltb-true v w f in let y = h.0 in absurd (omega arith)
    go false e false f = h.1

outranks_trans : (c : Configuration) (set : List (ℕ × ViewChangeData)) (n : ℕ) (d e g : List ℕ) → Outranks c set n d e → Outranks c set n e g → Outranks c set n d g
outranks_trans c set n d e g (inl h) (inl k) = inl (omega arith)
outranks_trans c set n d e g (inl h) (inr k) = let s = k.0 in inl (omega arith)
outranks_trans c set n d e g (inr h) (inl k) = let s = h.0 in inl (omega arith)
outranks_trans c set n d e g (inr h) (inr k) = let s = h.0 in let t = k.0 in inr (omega arith, precedes_trans set n d e g h.1 k.1)

-- ---- whole

pub goes_before-self : (c : Configuration) (set : List (ℕ × ViewChangeData)) (n : ℕ) (d : List ℕ) → goes_before c set n d d ≡ false
goes_before-self c set n d = false_from_ne_true (goes_before c set n d d) never
  where
    clash : Outranks c set n d d → ⊥
    clash (inl l) = absurd (omega arith)
    clash (inr h) = let t = h.1 in let f = precedes_self set n d in absurd cc

    pick : stands_by_entry c set n d set ≡ true → (not (stands_by_entry c set n d set) ≡ true) ⊎ (outranks c set n d d ≡ true) → ⊥
    pick s (inl h) = absurd (let e : not true ≡ true = rw s at h in cc)
    pick s (inr h) = clash (by_views (latest_of c set n d set) (latest_of c set n d set) (precedes set n d d) h)

    never : goes_before c set n d d ≡ true → ⊥
    never h =
        let p = and_parts (stands_by_entry c set n d set) (not (stands_by_entry c set n d set) || outranks c set n d d) h in
        pick p.0 (or_cases (not (stands_by_entry c set n d set)) (outranks c set n d d) p.1)

pub goes_before-trans : (c : Configuration) (set : List (ℕ × ViewChangeData)) (n : ℕ) (d e g : List ℕ) → goes_before c set n d e ≡ true → goes_before c set n e g ≡ true → goes_before c set n d g ≡ true
goes_before-trans c set n d e g h k =
    and_from (stands_by_entry c set n d set) (not (stands_by_entry c set n g set) || outranks c set n d g) p.0
    (pick (or_cases (not (stands_by_entry c set n e set)) (outranks c set n d e) p.1) (or_cases (not (stands_by_entry c set n g set)) (outranks c set n e g) q.1))
  where
    p : (stands_by_entry c set n d set ≡ true) × ((not (stands_by_entry c set n e set) || outranks c set n d e) ≡ true)
    p = and_parts (stands_by_entry c set n d set) (not (stands_by_entry c set n e set) || outranks c set n d e) h

    q : (stands_by_entry c set n e set ≡ true) × ((not (stands_by_entry c set n g set) || outranks c set n e g) ≡ true)
    q = and_parts (stands_by_entry c set n e set) (not (stands_by_entry c set n g set) || outranks c set n e g) k

    pick : (not (stands_by_entry c set n e set) ≡ true) ⊎ (outranks c set n d e ≡ true) → (not (stands_by_entry c set n g set) ≡ true) ⊎ (outranks c set n e g ≡ true)
        → (not (stands_by_entry c set n g set) || outranks c set n d g) ≡ true
    pick (inl x) y = absurd (let s = q.0 in let z : not true ≡ true = rw s at x in cc)
    pick (inr x) (inl y) = or_left (not (stands_by_entry c set n g set)) (outranks c set n d g) y
    pick (inr x) (inr y) =
        or_right (not (stands_by_entry c set n g set)) (outranks c set n d g)
        (of_views (latest_of c set n d set) (latest_of c set n g set) (precedes set n d g)
        (outranks_trans c set n d e g (by_views (latest_of c set n d set) (latest_of c set n e set) (precedes set n d e) x)
        (by_views (latest_of c set n e set) (latest_of c set n g set) (precedes set n e g) y)))

-- a digest that stands goes before one that does not, and one that does not stand goes before none
pub stands_before : (c : Configuration) (set : List (ℕ × ViewChangeData)) (n : ℕ) (d e : List ℕ) → goes_before c set n d e ≡ true → stands_by_entry c set n d set ≡ true
stands_before c set n d e h = (and_parts (stands_by_entry c set n d set) (not (stands_by_entry c set n e set) || outranks c set n d e) h).0

pub none_stands : (c : Configuration) (set : List (ℕ × ViewChangeData)) (n : ℕ) (d e : List ℕ) → stands_by_entry c set n e set ≡ false → goes_before c set n d e ≡ false → stands_by_entry c set n d set ≡ false
none_stands c set n d e none h =
    false_from_ne_true (stands_by_entry c set n d set)
    (λ s. let other : not (stands_by_entry c set n e set) ≡ true = rw none refl in
    let t = and_from (stands_by_entry c set n d set) (not (stands_by_entry c set n e set) || outranks c set n d e) s (or_left (not (stands_by_entry c set n e set)) (outranks c set n d e) other) in
    absurd cc)

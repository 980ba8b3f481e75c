-- Lists of checkpoints: one more is put in its place, three stay, and a mark selects those above it.
use Rattle.std.proofs.Common.{◌≡◌, ℕ, zero, suc, ◌≤◌, ◌<◌, ◌⊎◌, inl, inr, Bool, true, false, cond, ◌&&◌, ◌||◌, List, [], ◌∷◌, length, take, Option, Some, None, refl, sym, ap, ◌∙◌, arith, eqb-true, eq-eqb}
use Rattle.std.specs.Prelude.{◌==◌, nat_lt, bytes_eq, ⊤}
use Rattle.std.proofs.lemmas.Bool.{and_parts, eqb-false, ne_eqb, ltb-true, ltb-false, le-ltb}
use Rattle.std.proofs.lemmas.List.{take_all, length-take}
use Rattle.std.proofs.lemmas.Slice.Eq.{bytes_eq-Decides}
use Rattle.wire_format.specs.Messages.{CheckpointEntryData as CheckpointEntry}
use Rattle.wire_format.specs.Lists.{Each}
use Rattle.ordering.specs.Checkpoints as held
use Rattle.protocol.specs.Replica.Certificates.{insert_checkpoint, with_checkpoint, lists_checkpoint}
use Rattle.protocol.specs.Replica.Owed.{has_number}
use Rattle.protocol.proofs.Words.Elements.{each_weaker}
use Rattle.protocol.proofs.Agreement.States.{is_checkpoint, has_take, has_insert}
use Rattle.replica_histories.specs.Logs.{checkpoints_above, Descend, AreLatest}

-- the log puts a checkpoint in the same place as the history
pub inserts_same : (x : CheckpointEntry) (xs : List CheckpointEntry) → insert_checkpoint x xs ≡ held.insert_checkpoint x xs
inserts_same x [] = refl
inserts_same x (m ∷ ms) = go (m.number == x.number) (nat_lt m.number x.number) (inserts_same x ms)
  where
    go : (b d : Bool) → insert_checkpoint x ms ≡ held.insert_checkpoint x ms → cond b (m ∷ ms) (cond d (x ∷ m ∷ ms) (m ∷ insert_checkpoint x ms)) ≡ cond b (m ∷ ms) (cond d (x ∷ m ∷ ms) (m ∷ held.insert_checkpoint x ms))
    go true d same = refl
    go false true same = refl
    go false false same = ap (λ (ys : List CheckpointEntry). m ∷ ys) same

-- ---- the order

smaller : (a b : ℕ) → b ≤ a → (a ≡ b → ⊥) → b < a
smaller a b l d = go (nat_lt b a) refl
  where
    go : (t : Bool) → nat_lt b a ≡ t → b < a
    go true e = ltb-true b a e
    go false e = let k = ltb-false b a e in let same : a ≡ b = omega arith in absurd (d same)

each_insert : (P : CheckpointEntry → Type 0) (x : CheckpointEntry) (xs : List CheckpointEntry) → P x → Each P xs → Each P (insert_checkpoint x xs)
each_insert P x [] p h = (p, tt)
each_insert P x (m ∷ ms) p h = go (m.number == x.number) (nat_lt m.number x.number) (each_insert P x ms p h.1)
  where
    go : (b d : Bool) → Each P (insert_checkpoint x ms) → Each P (cond b (m ∷ ms) (cond d (x ∷ m ∷ ms) (m ∷ insert_checkpoint x ms)))
    go true d below = h
    go false true below = (p, h)
    go false false below = (h.0, below)

each_take : (P : CheckpointEntry → Type 0) (n : ℕ) (xs : List CheckpointEntry) → Each P xs → Each P (take n xs)
each_take P zero xs h = tt
each_take P (suc n) [] h = tt
each_take P (suc n) (m ∷ ms) h = (h.0, each_take P n ms h.1)

insert_descends : (x : CheckpointEntry) (xs : List CheckpointEntry) → Descend xs → Descend (insert_checkpoint x xs)
insert_descends x [] h = (tt, tt)
insert_descends x (m ∷ ms) h = go (m.number == x.number) (nat_lt m.number x.number) refl refl (insert_descends x ms h.1)
  where
    go : (b d : Bool) → (m.number == x.number) ≡ b → nat_lt m.number x.number ≡ d → Descend (insert_checkpoint x ms) → Descend (cond b (m ∷ ms) (cond d (x ∷ m ∷ ms) (m ∷ insert_checkpoint x ms)))
    go true d e f below = h
    go false true e f below =
        let l = ltb-true m.number x.number f in
        ((l, each_weaker (λ y. y.number < m.number) (λ y. y.number < x.number) (λ y k. omega arith) ms h.0), h)
    go false false e f below =
        (each_insert (λ y. y.number < m.number) x ms (smaller m.number x.number (ltb-false m.number x.number f) (eqb-false m.number x.number e)) h.0, below)

take_descends : (n : ℕ) (xs : List CheckpointEntry) → Descend xs → Descend (take n xs)
take_descends zero xs h = tt
take_descends (suc n) [] h = tt
take_descends (suc n) (m ∷ ms) h = (each_take (λ y. y.number < m.number) n ms h.0, take_descends n ms h.1)

pub none_latest : AreLatest []
none_latest = record { descend = tt; few = omega arith }

pub with_latest : (x : CheckpointEntry) (xs : List CheckpointEntry) → AreLatest xs → AreLatest (take 3 (insert_checkpoint x xs))
with_latest x xs h = record { descend = take_descends 3 (insert_checkpoint x xs) (insert_descends x xs h.descend); few = let l = length-take 3 (insert_checkpoint x xs) in omega arith }

-- ---- above a mark

none_above : (low : ℕ) (xs : List CheckpointEntry) → Each (λ y. y.number ≤ low) xs → checkpoints_above low xs ≡ []
none_above low [] h = refl
none_above low (m ∷ ms) h = rw (le-ltb low m.number h.0) (none_above low ms h.1)

-- below a checkpoint that is not above the mark there is none above it
low_behind : (low : ℕ) (m : CheckpointEntry) (ms : List CheckpointEntry) → nat_lt low m.number ≡ false → Each (λ y. y.number < m.number) ms → Each (λ y. y.number ≤ low) ms
low_behind low m ms e h = let l = ltb-false low m.number e in each_weaker (λ y. y.number < m.number) (λ y. y.number ≤ low) (λ y k. omega arith) ms h

above_take : (low n : ℕ) (xs : List CheckpointEntry) → Descend xs → checkpoints_above low (take n xs) ≡ take n (checkpoints_above low xs)
above_take low zero xs h = refl
above_take low (suc n) [] h = refl
above_take low (suc n) (m ∷ ms) h = go (nat_lt low m.number) refl (above_take low n ms h.1)
  where
    go : (t : Bool) → nat_lt low m.number ≡ t → checkpoints_above low (take n ms) ≡ take n (checkpoints_above low ms) → cond t (m ∷ checkpoints_above low (take n ms)) (checkpoints_above low (take n ms)) ≡ take (suc n) (cond t (m ∷ checkpoints_above low ms) (checkpoints_above low ms))
    go true e below = ap (λ (ys : List CheckpointEntry). m ∷ ys) below
    go false e below =
        let behind = low_behind low m ms e h.0 in
        none_above low (take n ms) (each_take (λ y. y.number ≤ low) n ms behind) ∙ sym (ap (take (suc n)) (none_above low ms behind))

-- a checkpoint above the mark is put among those above it
above_insert : (low : ℕ) (x : CheckpointEntry) (xs : List CheckpointEntry) → Descend xs → nat_lt low x.number ≡ true → checkpoints_above low (insert_checkpoint x xs) ≡ insert_checkpoint x (checkpoints_above low xs)
above_insert low x [] h a = rw a refl
above_insert low x (m ∷ ms) h a = go (m.number == x.number) (nat_lt m.number x.number) (nat_lt low m.number) refl refl refl (above_insert low x ms h.1 a)
  where
    over : low < x.number
    over = ltb-true low x.number a

    go : (b d t : Bool) → (m.number == x.number) ≡ b → nat_lt m.number x.number ≡ d → nat_lt low m.number ≡ t → checkpoints_above low (insert_checkpoint x ms) ≡ insert_checkpoint x (checkpoints_above low ms)
        → checkpoints_above low (cond b (m ∷ ms) (cond d (x ∷ m ∷ ms) (m ∷ insert_checkpoint x ms))) ≡ insert_checkpoint x (cond t (m ∷ checkpoints_above low ms) (checkpoints_above low ms))
    go true d true e f g below = rw (g, e) refl
    go true d false e f g below = let o = over in let same = eqb-true m.number x.number e in let l = ltb-false low m.number g in absurd (omega arith)
    go false true true e f g below = rw (a, g, e, f) refl
    go false true false e f g below = rw (a, g, none_above low ms (low_behind low m ms g h.0)) refl
    go false false true e f g below = rw (g, e, f) (ap (λ (ys : List CheckpointEntry). m ∷ ys) below)
    go false false false e f g below = let o = over in let k = ltb-false m.number x.number f in let l = ltb-false low m.number g in absurd (omega arith)

-- a checkpoint that is not above the mark changes nothing above it
above_not : (low : ℕ) (x : CheckpointEntry) (xs : List CheckpointEntry) → nat_lt low x.number ≡ false → checkpoints_above low (insert_checkpoint x xs) ≡ checkpoints_above low xs
above_not low x [] a = rw a refl
above_not low x (m ∷ ms) a = go (m.number == x.number) (nat_lt m.number x.number) (above_not low x ms a)
  where
    go : (b d : Bool) → checkpoints_above low (insert_checkpoint x ms) ≡ checkpoints_above low ms → checkpoints_above low (cond b (m ∷ ms) (cond d (x ∷ m ∷ ms) (m ∷ insert_checkpoint x ms))) ≡ checkpoints_above low (m ∷ ms)
    go true d same = refl
    go false true same = rw a refl
    go false false same = ap (λ (ys : List CheckpointEntry). cond (nat_lt low m.number) (m ∷ ys) ys) same

length_above : (low : ℕ) (xs : List CheckpointEntry) → length (checkpoints_above low xs) ≤ length xs
length_above low [] = omega arith
length_above low (m ∷ ms) = go (nat_lt low m.number) (length_above low ms)
  where
    go : (t : Bool) → length (checkpoints_above low ms) ≤ length ms → length (cond t (m ∷ checkpoints_above low ms) (checkpoints_above low ms)) ≤ suc (length ms)
    go true l = omega arith
    go false l = omega arith

-- so the checkpoints above the mark after one more depend only on those above it before
pub above_with : (low : ℕ) (x : CheckpointEntry) (xs : List CheckpointEntry) → AreLatest xs
    → checkpoints_above low (take 3 (insert_checkpoint x xs)) ≡ cond (nat_lt low x.number) (take 3 (insert_checkpoint x (checkpoints_above low xs))) (checkpoints_above low xs)
above_with low x xs h = above_take low 3 (insert_checkpoint x xs) (insert_descends x xs h.descend) ∙ go (nat_lt low x.number) refl
  where
    go : (t : Bool) → nat_lt low x.number ≡ t → take 3 (checkpoints_above low (insert_checkpoint x xs)) ≡ cond t (take 3 (insert_checkpoint x (checkpoints_above low xs))) (checkpoints_above low xs)
    go true e = ap (take 3) (above_insert low x xs h.descend e)
    go false e = ap (take 3) (above_not low x xs e) ∙ take_all 3 (checkpoints_above low xs) (let a = length_above low xs in let b = h.few in omega arith)

-- a checkpoint above a higher mark is above the lower one
pub above_higher : (low high : ℕ) (xs : List CheckpointEntry) → low ≤ high → checkpoints_above high (checkpoints_above low xs) ≡ checkpoints_above high xs
above_higher low high [] l = refl
above_higher low high (m ∷ ms) l = go (nat_lt low m.number) (nat_lt high m.number) refl refl (above_higher low high ms l)
  where
    go : (t u : Bool) → nat_lt low m.number ≡ t → nat_lt high m.number ≡ u → checkpoints_above high (checkpoints_above low ms) ≡ checkpoints_above high ms → checkpoints_above high (cond t (m ∷ checkpoints_above low ms) (checkpoints_above low ms)) ≡ cond u (m ∷ checkpoints_above high ms) (checkpoints_above high ms)
    go true true e f same = rw f (ap (λ (ys : List CheckpointEntry). m ∷ ys) same)
    go true false e f same = rw f same
    go false false e f same = same
    go false true e f same = let a = ltb-false low m.number e in let b = ltb-true high m.number f in absurd (omega arith)

-- ---- whether a list has a checkpoint

-- of a number above the mark
pub says_above : (low : ℕ) (x : CheckpointEntry) (xs : List CheckpointEntry) → low < x.number → lists_checkpoint x (checkpoints_above low xs) ≡ lists_checkpoint x xs
says_above low x [] l = refl
says_above low x (m ∷ ms) l = go (nat_lt low m.number) refl (says_above low x ms l)
  where
    go : (t : Bool) → nat_lt low m.number ≡ t → lists_checkpoint x (checkpoints_above low ms) ≡ lists_checkpoint x ms → lists_checkpoint x (cond t (m ∷ checkpoints_above low ms) (checkpoints_above low ms)) ≡ (((m.number == x.number) && bytes_eq m.digest x.digest) || lists_checkpoint x ms)
    go true e same = ap (λ (b : Bool). ((m.number == x.number) && bytes_eq m.digest x.digest) || b) same
    go false e same = let k = ltb-false low m.number e in let other = ne_eqb m.number x.number (λ is. absurd (omega arith)) in rw other same

-- the same for its number alone
pub number_above : (low k : ℕ) (xs : List CheckpointEntry) → low < k → has_number k (checkpoints_above low xs) ≡ has_number k xs
number_above low k [] l = refl
number_above low k (m ∷ ms) l = go (nat_lt low m.number) refl (number_above low k ms l)
  where
    go : (t : Bool) → nat_lt low m.number ≡ t → has_number k (checkpoints_above low ms) ≡ has_number k ms → has_number k (cond t (m ∷ checkpoints_above low ms) (checkpoints_above low ms)) ≡ ((m.number == k) || has_number k ms)
    go true e same = ap (λ (b : Bool). (m.number == k) || b) same
    go false e same = let a = ltb-false low m.number e in let other = ne_eqb m.number k (λ is. absurd (omega arith)) in rw other same

-- a list with a checkpoint has its number
pub says_number : (x : CheckpointEntry) (xs : List CheckpointEntry) → lists_checkpoint x xs ≡ true → has_number x.number xs ≡ true
says_number x [] h = h
says_number x (m ∷ ms) h = go (m.number == x.number) (bytes_eq m.digest x.digest) (says_number x ms) h
  where
    go : (a b : Bool) → (lists_checkpoint x ms ≡ true → has_number x.number ms ≡ true) → ((a && b) || lists_checkpoint x ms) ≡ true → (a || has_number x.number ms) ≡ true
    go true b below k = refl
    go false b below k = below k

-- ---- checkpoints that add nothing

-- in a list with room for n, one of this number is there, or has no place
abbrev pub IsPassed : ℕ → ℕ → List CheckpointEntry → Type 0
IsPassed zero k xs = ⊤
IsPassed (suc n) k [] = ⊥
IsPassed (suc n) k (m ∷ ms) = (m.number ≡ k) ⊎ ((k < m.number) × IsPassed n k ms)

passed_more : (n k : ℕ) (xs : List CheckpointEntry) → IsPassed (suc n) k xs → IsPassed n k xs
passed_more zero k xs h = tt
passed_more (suc n) k [] h = absurd h
passed_more (suc n) k (m ∷ ms) (inl h) = inl h
passed_more (suc n) k (m ∷ ms) (inr h) = inr (h.0, passed_more n k ms h.1)

passed_taken : (n k : ℕ) (xs : List CheckpointEntry) → IsPassed n k xs → IsPassed n k (take n xs)
passed_taken zero k xs h = tt
passed_taken (suc n) k [] h = h
passed_taken (suc n) k (m ∷ ms) (inl h) = inl h
passed_taken (suc n) k (m ∷ ms) (inr h) = inr (h.0, passed_taken n k ms h.1)

-- so it adds nothing
pub passed_adds_nothing : (n : ℕ) (x : CheckpointEntry) (xs : List CheckpointEntry) → length xs ≤ n → IsPassed n x.number xs → take n (insert_checkpoint x xs) ≡ xs
passed_adds_nothing zero x [] l h = refl
passed_adds_nothing zero x (m ∷ ms) l h = absurd (omega arith)
passed_adds_nothing (suc n) x [] l h = absurd h
passed_adds_nothing (suc n) x (m ∷ ms) l (inl h) = rw (eq-eqb m.number x.number h) (take_all (suc n) (m ∷ ms) l)
passed_adds_nothing (suc n) x (m ∷ ms) l (inr h) =
    let above = h.0 in
    rw (ne_eqb m.number x.number (λ same. absurd (omega arith)), le-ltb m.number x.number (omega arith)) (ap (λ (ys : List CheckpointEntry). m ∷ ys) (passed_adds_nothing n x ms (omega arith) h.1))

-- a listed number is passed
pub listed_passed : (n k : ℕ) (xs : List CheckpointEntry) → length xs ≤ n → Descend xs → has_number k xs ≡ true → IsPassed n k xs
listed_passed n k [] l d h = absurd cc
listed_passed zero k (m ∷ ms) l d h = absurd (omega arith)
listed_passed (suc n) k (m ∷ ms) l d h = go (m.number == k) refl h (listed_passed n k ms (omega arith) d.1)
  where
    below : (xs : List CheckpointEntry) → Each (λ y. y.number < m.number) xs → has_number k xs ≡ true → k < m.number
    below [] e h = absurd cc
    below (y ∷ ys) e h = at (y.number == k) refl h (below ys e.1)
      where
        at : (b : Bool) → (y.number == k) ≡ b → (b || has_number k ys) ≡ true → (has_number k ys ≡ true → k < m.number) → k < m.number
        at true is h later = let same = eqb-true y.number k is in let less = e.0 in omega arith
        at false is h later = later h

    go : (b : Bool) → (m.number == k) ≡ b → (b || has_number k ms) ≡ true → (has_number k ms ≡ true → IsPassed n k ms) → (m.number ≡ k) ⊎ ((k < m.number) × IsPassed n k ms)
    go true is h later = inl (eqb-true m.number k is)
    go false is h later = inr (below ms d.0 h, later h)

-- after itself it is passed
pub passed_behind : (n : ℕ) (x : CheckpointEntry) (xs : List CheckpointEntry) → IsPassed n x.number (take n (insert_checkpoint x xs))
passed_behind zero x xs = tt
passed_behind (suc n) x [] = inl refl
passed_behind (suc n) x (m ∷ ms) = go (m.number == x.number) (nat_lt m.number x.number) refl refl (passed_behind n x ms)
  where
    go : (b d : Bool) → (m.number == x.number) ≡ b → nat_lt m.number x.number ≡ d → IsPassed n x.number (take n (insert_checkpoint x ms)) → IsPassed (suc n) x.number (take (suc n) (cond b (m ∷ ms) (cond d (x ∷ m ∷ ms) (m ∷ insert_checkpoint x ms))))
    go true d e f below = inl (eqb-true m.number x.number e)
    go false true e f below = inl refl
    go false false e f below = inr (smaller m.number x.number (ltb-false m.number x.number f) (eqb-false m.number x.number e), below)

-- and stays so
pub passed_stays : (n k : ℕ) (x : CheckpointEntry) (xs : List CheckpointEntry) → IsPassed n k xs → IsPassed n k (take n (insert_checkpoint x xs))
passed_stays zero k x xs h = tt
passed_stays (suc n) k x [] h = absurd h
passed_stays (suc n) k x (m ∷ ms) h = go (m.number == x.number) (nat_lt m.number x.number) refl h (passed_stays n k x ms)
  where
    below : (m.number ≡ k) ⊎ ((k < m.number) × IsPassed n k ms) → m.number < x.number → k < x.number
    below (inl e) l = omega arith
    below (inr p) l = let a = p.0 in omega arith

    go : (b d : Bool) → nat_lt m.number x.number ≡ d → (m.number ≡ k) ⊎ ((k < m.number) × IsPassed n k ms)
        → (IsPassed n k ms → IsPassed n k (take n (insert_checkpoint x ms))) → IsPassed (suc n) k (take (suc n) (cond b (m ∷ ms) (cond d (x ∷ m ∷ ms) (m ∷ insert_checkpoint x ms))))
    go true d f (inl e) stays = inl e
    go true d f (inr p) stays = inr (p.0, passed_taken n k ms p.1)
    go false true f p stays = inr (below p (ltb-true m.number x.number f), passed_taken n k (m ∷ ms) (passed_more n k (m ∷ ms) p))
    go false false f (inl e) stays = inl e
    go false false f (inr p) stays = inr (p.0, stays p.1)

says_itself : (x : CheckpointEntry) (ys : List CheckpointEntry) → lists_checkpoint x (x ∷ ys) ≡ true
says_itself x ys = rw (eq-eqb x.number x.number refl, (bytes_eq-Decides x.digest x.digest).1 refl) refl

-- a checkpoint that is put in finds room, or adds nothing
pub put_or_passed : (n : ℕ) (x : CheckpointEntry) (xs : List CheckpointEntry) → length xs ≤ n → (lists_checkpoint x (take n (insert_checkpoint x xs)) ≡ true) ⊎ (take n (insert_checkpoint x xs) ≡ xs)
put_or_passed zero x [] l = inr refl
put_or_passed zero x (m ∷ ms) l = absurd (omega arith)
put_or_passed (suc n) x [] l = inl (says_itself x (take n []))
put_or_passed (suc n) x (m ∷ ms) l = go (m.number == x.number) (nat_lt m.number x.number) (put_or_passed n x ms (omega arith))
  where
    later : (b : Bool) → (b || true) ≡ true
    later true = refl
    later false = refl

    go : (b d : Bool) → (lists_checkpoint x (take n (insert_checkpoint x ms)) ≡ true) ⊎ (take n (insert_checkpoint x ms) ≡ ms)
        → (lists_checkpoint x (take (suc n) (cond b (m ∷ ms) (cond d (x ∷ m ∷ ms) (m ∷ insert_checkpoint x ms)))) ≡ true)
        ⊎ (take (suc n) (cond b (m ∷ ms) (cond d (x ∷ m ∷ ms) (m ∷ insert_checkpoint x ms))) ≡ m ∷ ms)
    go true d k = inr (take_all (suc n) (m ∷ ms) l)
    go false true k = inl (says_itself x (take n (m ∷ ms)))
    go false false (inl k) = inl (rw k (later ((m.number == x.number) && bytes_eq m.digest x.digest)))
    go false false (inr k) = inr (ap (λ (ys : List CheckpointEntry). m ∷ ys) k)

-- ---- a sender's list after one more

pub behind_latest : (s : ℕ) (o : Option (ℕ × CheckpointEntry)) (xs : List CheckpointEntry) → AreLatest xs → AreLatest (with_checkpoint s o xs)
behind_latest s None xs h = h
behind_latest s (Some x) xs h = go (x.0 == s)
  where
    go : (b : Bool) → AreLatest (cond b (take 3 (insert_checkpoint x.1 xs)) xs)
    go true = with_latest x.1 xs h
    go false = h

-- the checkpoints above the mark after one more depend only on those above it before
pub behind_above : (low s : ℕ) (o : Option (ℕ × CheckpointEntry)) (xs ys : List CheckpointEntry) → AreLatest xs → AreLatest ys → checkpoints_above low xs ≡ checkpoints_above low ys
    → checkpoints_above low (with_checkpoint s o xs) ≡ checkpoints_above low (with_checkpoint s o ys)
behind_above low s None xs ys h k same = same
behind_above low s (Some x) xs ys h k same = go (x.0 == s)
  where
    go : (b : Bool) → checkpoints_above low (cond b (take 3 (insert_checkpoint x.1 xs)) xs) ≡ checkpoints_above low (cond b (take 3 (insert_checkpoint x.1 ys)) ys)
    go true =
        above_with low x.1 xs h ∙ ap (λ (zs : List CheckpointEntry). cond (nat_lt low x.1.number) (take 3 (insert_checkpoint x.1 zs)) zs) same ∙ sym (above_with low x.1 ys k)
    go false = same

pub same_entry : (m x : CheckpointEntry) → is_checkpoint m x ≡ true → x ≡ m
same_entry m x h =
    let p = and_parts (x.number == m.number) (bytes_eq x.digest m.digest) h in
    let en : x.number ≡ m.number = eqb-true x.number m.number p.0 in
    let ed : x.digest ≡ m.digest = (bytes_eq-Decides x.digest m.digest).0 p.1 in
    ap (λ (t : ℕ). let y : CheckpointEntry = record { number = t; digest = x.digest } in y) en ∙ ap (λ (t : List ℕ). let y : CheckpointEntry = record { number = m.number; digest = t } in y) ed

-- a checkpoint in the list was there, or is the one more
pub behind_says : (m : CheckpointEntry) (s : ℕ) (o : Option (ℕ × CheckpointEntry)) (xs : List CheckpointEntry) → lists_checkpoint m (with_checkpoint s o xs) ≡ true
    → (lists_checkpoint m xs ≡ true) ⊎ (o ≡ Some (s, m))
behind_says m s None xs h = inl h
behind_says m s (Some x) xs h = go (x.0 == s) refl h
  where
    pick : x.0 ≡ s → (is_checkpoint m x.1 ≡ true) ⊎ (lists_checkpoint m xs ≡ true) → (lists_checkpoint m xs ≡ true) ⊎ (Some x ≡ Some (s, m))
    pick own (inl is) =
        inr (ap (λ (t : ℕ). Some (let y : ℕ × CheckpointEntry = (t, x.1) in y)) own ∙ ap (λ (t : CheckpointEntry). Some (let y : ℕ × CheckpointEntry = (s, t) in y)) (same_entry m x.1 is))
    pick own (inr k) = inl k

    go : (b : Bool) → (x.0 == s) ≡ b → lists_checkpoint m (cond b (take 3 (insert_checkpoint x.1 xs)) xs) ≡ true → (lists_checkpoint m xs ≡ true) ⊎ (Some x ≡ Some (s, m))
    go true e k = pick (eqb-true x.0 s e) (has_insert m x.1 xs (has_take m 3 (insert_checkpoint x.1 xs) k))
    go false e k = inl k

pub behind_passed : (k s : ℕ) (o : Option (ℕ × CheckpointEntry)) (xs : List CheckpointEntry) → IsPassed 3 k xs → IsPassed 3 k (with_checkpoint s o xs)
behind_passed k s None xs h = h
behind_passed k s (Some x) xs h = go (x.0 == s)
  where
    go : (b : Bool) → IsPassed 3 k (cond b (take 3 (insert_checkpoint x.1 xs)) xs)
    go true = passed_stays 3 k x.1 xs h
    go false = h

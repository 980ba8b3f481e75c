-- The batches that a scan collects.
use Rattle.std.proofs.Common.{◌≡◌, ℕ, suc, ◌+◌, ◌≤◌, ◌<◌, ◌⊎◌, inl, inr, true, cond, List, [], ◌∷◌, refl, sym, ap, ◌∙◌, subst, arith, Some, None, Bor, eq-eqb}
use Rattle.std.specs.Prelude.{is_some}
use Rattle.std.specs.Bool.{then_some}
use Rattle.std.specs.Option.{option_map_or}
use Rattle.std.specs.Map.{lookup}
use Rattle.std.specs.Ordering.{nat_cmp, match_ordering}
use Rattle.std.specs.BTreeMap.{is_at, insert_entry}
use Rattle.std.proofs.lemmas.Bool.{cases_order, ne_eqb}
use Rattle.space.proofs.Trees.{less, greater}
use Rattle.space.proofs.Filing.{at_same, at_other}
use Rattle.quorum.specs.Votes.{or_else}
use Rattle.wire_format.specs.Lists.{Each}
use Rattle.protocol.specs.System.Trace.{Entry, Has}
use Rattle.protocol.specs.System.Trace.Entry.{Executed}
use Rattle.protocol.specs.Replica.Selection.{null_batch}
use Rattle.protocol.specs.Space.Linear.{batch_at, batch_of, last_executed}
use Rattle.points.specs.Numbering.{Numbered, AscendsFrom}
use Rattle.points.specs.Batching.{numbered, numbered_of, first_batch, CollectsBatches, NotesBatch}
use Rattle.points.proofs.Listing.{all_listed, Lists}

abbrev Entries : Type 0
Entries = List (ℕ × Bor (List ℕ))

-- no entry has the number
abbrev IsAbsent : ℕ → Entries → Type 0
IsAbsent n es = lookup (is_at (nat_cmp n)) es ≡ None

other_head : (n : ℕ) (e : ℕ × Bor (List ℕ)) (es : Entries) → IsAbsent n (e ∷ es) → n ≡ e.0 → ⊥
other_head n e es a same =
    let found : lookup (is_at (nat_cmp n)) (e ∷ es) ≡ Some e.1 = ap (λ b. cond b (Some e.1) (lookup (is_at (nat_cmp n)) es)) (subst (λ k. is_at (nat_cmp n) k ≡ true) same (at_same n)) in
    let bad : Some e.1 ≡ None = sym found ∙ a in
    let g : ⊥ = cc in g

absent_tail : (n : ℕ) (e : ℕ × Bor (List ℕ)) (es : Entries) → IsAbsent n (e ∷ es) → IsAbsent n es
absent_tail n e es a = sym (ap (λ b. cond b (Some e.1) (lookup (is_at (nat_cmp n)) es)) (at_other n e.0 (other_head n e es a))) ∙ a

pub present : (n : ℕ) (es : Entries) → is_some (lookup (is_at (nat_cmp n)) es) ≡ true → Has (λ (x : Numbered). x.number ≡ n) (numbered_of es)
present n [] h = absurd cc
present n (e ∷ es) h = go (cases_order n e.0) (present n es)
  where
    tail : (n ≡ e.0 → ⊥) → is_some (lookup (is_at (nat_cmp n)) es) ≡ true
    tail ne = sym (ap (λ b. is_some (cond b (Some e.1) (lookup (is_at (nat_cmp n)) es))) (at_other n e.0 ne)) ∙ h

    go : (n ≡ e.0) ⊎ ((n < e.0) ⊎ (e.0 < n)) → (is_some (lookup (is_at (nat_cmp n)) es) ≡ true → Has (λ (x : Numbered). x.number ≡ n) (numbered_of es))
        → Has (λ (x : Numbered). x.number ≡ n) (numbered_of (e ∷ es))
    go (inl same) below = inl (sym same)
    go (inr (inl l)) below = inr (below (tail (λ same. omega arith)))
    go (inr (inr l)) below = inr (below (tail (λ same. omega arith)))

-- ---- an entry that is added

put_before : (n : ℕ) (v : Bor (List ℕ)) (e : ℕ × Bor (List ℕ)) (es : Entries) → n < e.0 → insert_entry nat_cmp (e ∷ es) n v ≡ (n, v) ∷ e ∷ es
put_before n v e es l = ap (λ o. match_ordering o ((n, v) ∷ e ∷ es) ((e.0, v) ∷ es) (e ∷ insert_entry nat_cmp es n v)) (less n e.0 l)

put_behind : (n : ℕ) (v : Bor (List ℕ)) (e : ℕ × Bor (List ℕ)) (es : Entries) → e.0 < n → insert_entry nat_cmp (e ∷ es) n v ≡ e ∷ insert_entry nat_cmp es n v
put_behind n v e es l = ap (λ o. match_ordering o ((n, v) ∷ e ∷ es) ((e.0, v) ∷ es) (e ∷ insert_entry nat_cmp es n v)) (greater n e.0 l)

-- the place of an absent number is before the head or after it
placed : (n : ℕ) (e : ℕ × Bor (List ℕ)) (es : Entries) → IsAbsent n (e ∷ es) → (n < e.0) ⊎ (e.0 < n)
placed n e es a = go (cases_order n e.0)
  where
    go : (n ≡ e.0) ⊎ ((n < e.0) ⊎ (e.0 < n)) → (n < e.0) ⊎ (e.0 < n)
    go (inl same) = absurd (other_head n e es a same)
    go (inr o) = o

put_ascends : (m n : ℕ) (v : Bor (List ℕ)) (es : Entries) → m ≤ n → IsAbsent n es → AscendsFrom m (numbered_of es) → AscendsFrom m (numbered_of (insert_entry nat_cmp es n v))
put_ascends m n v [] l a h = (l, tt)
put_ascends m n v (e ∷ es) l a h = go (placed n e es a) (λ k. put_ascends (suc e.0) n v es (omega arith) (absent_tail n e es a) h.1)
  where
    go : (n < e.0) ⊎ (e.0 < n) → (e.0 < n → AscendsFrom (suc e.0) (numbered_of (insert_entry nat_cmp es n v))) → AscendsFrom m (numbered_of (insert_entry nat_cmp (e ∷ es) n v))
    go (inl k) rest = subst (λ ys. AscendsFrom m (numbered_of ys)) (sym (put_before n v e es k)) (l, (omega arith, h.1))
    go (inr k) rest = subst (λ ys. AscendsFrom m (numbered_of ys)) (sym (put_behind n v e es k)) (h.0, rest k)

put_each : (P : Numbered → Type 0) (n : ℕ) (v : Bor (List ℕ)) (es : Entries) → IsAbsent n es → P (numbered (n, v)) → Each P (numbered_of es) → Each P (numbered_of (insert_entry nat_cmp es n v))
put_each P n v [] a p h = (p, tt)
put_each P n v (e ∷ es) a p h = go (placed n e es a) (put_each P n v es (absent_tail n e es a) p h.1)
  where
    go : (n < e.0) ⊎ (e.0 < n) → Each P (numbered_of (insert_entry nat_cmp es n v)) → Each P (numbered_of (insert_entry nat_cmp (e ∷ es) n v))
    go (inl k) rest = subst (λ ys. Each P (numbered_of ys)) (sym (put_before n v e es k)) (p, h)
    go (inr k) rest = subst (λ ys. Each P (numbered_of ys)) (sym (put_behind n v e es k)) (h.0, rest)

-- some entry has the number
abbrev IsHeld : ℕ → Entries → Type 0
IsHeld j es = Has (λ (x : Numbered). x.number ≡ j) (numbered_of es)

put_has : (j n : ℕ) (v : Bor (List ℕ)) (es : Entries) → IsAbsent n es → (n ≡ j) ⊎ IsHeld j es → IsHeld j (insert_entry nat_cmp es n v)
put_has j n v [] a (inl e) = inl e
put_has j n v [] a (inr h) = absurd h
put_has j n v (e ∷ es) a h = go (placed n e es a) h (put_has j n v es (absent_tail n e es a))
  where
    go : (n < e.0) ⊎ (e.0 < n) → (n ≡ j) ⊎ IsHeld j (e ∷ es) → ((n ≡ j) ⊎ IsHeld j es → IsHeld j (insert_entry nat_cmp es n v)) → IsHeld j (insert_entry nat_cmp (e ∷ es) n v)
    go (inl k) h rest = subst (λ (ys : Entries). IsHeld j ys) (sym (put_before n v e es k)) h
    go (inr k) (inl same) rest = subst (λ (ys : Entries). IsHeld j ys) (sym (put_behind n v e es k)) (inr (rest (inl same)))
    go (inr k) (inr (inl here)) rest = subst (λ (ys : Entries). IsHeld j ys) (sym (put_behind n v e es k)) (inl here)
    go (inr k) (inr (inr h)) rest = subst (λ (ys : Entries). IsHeld j ys) (sym (put_behind n v e es k)) (inr (rest (inr h)))

-- ---- one entry of the trace

each_more : (e : Entry) (past : List Entry) (xs : List Numbered) → Each (λ x. (first_batch past x.number ≡ Some x.batch) × (x.number ≤ last_executed past)) xs
    → Each (λ x. (first_batch (e ∷ past) x.number ≡ Some x.batch) × (x.number ≤ last_executed (e ∷ past))) xs
each_more e past [] h = tt
each_more e past (x ∷ xs) h = let l = h.0.1 in ((ap (λ o. or_else o (batch_at x.number e)) h.0.0, omega arith), each_more e past xs h.1)

-- the entry brings no batch for a number that has none
pub goes_on : (e : Entry) (past : List Entry) (xs : List Numbered) → ((j : ℕ) → 1 ≤ j → Has (λ (x : Numbered). x.number ≡ j) xs ⊎ (batch_at j e ≡ None))
    → CollectsBatches past xs → CollectsBatches (e ∷ past) xs
goes_on e past xs none h = record {
  ascends = h.ascends;
  each = each_more e past xs h.each;
  other = λ j l. both j (h.other j l) (none j l);
}
  where
    both : (j : ℕ) → Has (λ (x : Numbered). x.number ≡ j) xs ⊎ (first_batch past j ≡ None) → Has (λ (x : Numbered). x.number ≡ j) xs ⊎ (batch_at j e ≡ None)
        → Has (λ (x : Numbered). x.number ≡ j) xs ⊎ (first_batch (e ∷ past) j ≡ None)
    both j (inl has) m = inl has
    both j (inr n) (inl has) = inl has
    both j (inr n) (inr m) = inr (ap (λ o. or_else o (batch_at j e)) n ∙ m)

no_other : (r n j : ℕ) (batch : List ℕ) → (n ≡ j → ⊥) → batch_at j (Executed r n batch) ≡ None
no_other r n j batch ne = ap (λ b. then_some b batch) (ne_eqb n j ne)

-- an execution of the number 0, or of one that is there
pub notes_known : (r n : ℕ) (batch : List ℕ) (es : Entries) → (n ≡ 0) ⊎ (is_some (lookup (is_at (nat_cmp n)) es) ≡ true) → NotesBatch (Executed r n batch) es es
notes_known r n batch es h past = goes_on (Executed r n batch) past (numbered_of es) (λ j l. go j l h (cases_order n j))
  where
    go : (j : ℕ) → 1 ≤ j → (n ≡ 0) ⊎ (is_some (lookup (is_at (nat_cmp n)) es) ≡ true) → (n ≡ j) ⊎ ((n < j) ⊎ (j < n))
        → Has (λ (x : Numbered). x.number ≡ j) (numbered_of es) ⊎ (batch_at j (Executed r n batch) ≡ None)
    go j l (inl z) o = inr (no_other r n j batch (λ same. omega arith))
    go j l (inr known) (inl same) = inl (subst (λ k. Has (λ (x : Numbered). x.number ≡ k) (numbered_of es)) same (present n es known))
    go j l (inr known) (inr o) = inr (no_other r n j batch (λ same. apart same o))
      where
        apart : n ≡ j → (n < j) ⊎ (j < n) → ⊥
        apart same (inl m) = omega arith
        apart same (inr m) = omega arith

-- of a new one
pub notes_new : (r n : ℕ) (v : Bor (List ℕ)) (es fs : Entries) → 1 ≤ n → IsAbsent n es → fs ≡ insert_entry nat_cmp es n v → NotesBatch (Executed r n v.now) es fs
notes_new r n v es fs l a is past h = subst (λ ys. CollectsBatches (Executed r n v.now ∷ past) (numbered_of ys)) (sym is) (record {
  ascends = put_ascends 1 n v es l a h.ascends;
  each = put_each (λ x. (first_batch now x.number ≡ Some x.batch) × (x.number ≤ last_executed now)) n v es a (first, omega arith) (each_more (Executed r n v.now) past (numbered_of es) h.each);
  other = λ j m. others j (h.other j m) (cases_order n j);
})
  where
    now : List Entry
    now = Executed r n v.now ∷ past

    missing : (xs : Entries) → IsAbsent n xs → Has (λ (x : Numbered). x.number ≡ n) (numbered_of xs) → ⊥
    missing [] b has = has
    missing (e ∷ xs) b (inl same) = other_head n e xs b (sym same)
    missing (e ∷ xs) b (inr has) = missing xs (absent_tail n e xs b) has

    none : Has (λ (x : Numbered). x.number ≡ n) (numbered_of es) ⊎ (first_batch past n ≡ None) → first_batch past n ≡ None
    none (inl has) = absurd (missing es a has)
    none (inr o) = o

    first : first_batch now n ≡ Some v.now
    first = ap (λ o. or_else o (batch_at n (Executed r n v.now))) (none (h.other n l)) ∙ ap (λ b. then_some b v.now) (eq-eqb n n refl)

    others : (j : ℕ) → Has (λ (x : Numbered). x.number ≡ j) (numbered_of es) ⊎ (first_batch past j ≡ None) → (n ≡ j) ⊎ ((n < j) ⊎ (j < n))
        → Has (λ (x : Numbered). x.number ≡ j) (numbered_of (insert_entry nat_cmp es n v)) ⊎ (first_batch now j ≡ None)
    others j o (inl same) = inl (put_has j n v es a (inl same))
    others j (inl has) (inr m) = inl (put_has j n v es a (inr has))
    others j (inr o) (inr m) = inr (ap (λ x. or_else x (batch_at j (Executed r n v.now))) o ∙ no_other r n j v.now (λ same. apart same m))
      where
        apart : n ≡ j → (n < j) ⊎ (j < n) → ⊥
        apart same (inl k) = omega arith
        apart same (inr k) = omega arith

-- an entry that is such an execution
pub noted_known : (r n : ℕ) (batch : List ℕ) (e : Entry) (es : Entries) → Executed r n batch ≡ e → (n ≡ 0) ⊎ (is_some (lookup (is_at (nat_cmp n)) es) ≡ true) → NotesBatch e es es
noted_known r n batch e es is h = subst (λ (x : Entry). NotesBatch x es es) is (notes_known r n batch es h)

pub noted_new : (r n : ℕ) (batch : List ℕ) (e : Entry) (v : Bor (List ℕ)) (es fs : Entries) → Executed r n batch ≡ e → v.now ≡ batch → 1 ≤ n → IsAbsent n es
    → fs ≡ insert_entry nat_cmp es n v → NotesBatch e es fs
noted_new r n batch e v es fs is text l a put =
    subst (λ (x : Entry). NotesBatch x es fs) (ap (Executed r n) text ∙ is) (notes_new r n v es fs l a put)

-- ---- all numbers

pub begins : CollectsBatches [] []
begins = record { ascends = tt; each = tt; other = λ j l. inr refl }

pub lists : (past : List Entry) (xs : List Numbered) → CollectsBatches past xs → Lists (batch_of past) 1 (last_executed past) xs
lists past xs h = all_listed (batch_of past) 1 (last_executed past) xs (record {
  ascends = h.ascends;
  each = within xs h.each;
  other = λ j l. known j (h.other j l);
})
  where
    within : (ys : List Numbered) → Each (λ x. (first_batch past x.number ≡ Some x.batch) × (x.number ≤ last_executed past)) ys
        → Each (λ x. (x.batch ≡ batch_of past x.number) × (x.number < 1 + last_executed past)) ys
    within [] e = tt
    within (y ∷ ys) e = let l = e.0.1 in ((sym (ap (λ o. option_map_or (λ batch. batch) o null_batch) e.0.0), omega arith), within ys e.1)

    known : (j : ℕ) → Has (λ (x : Numbered). x.number ≡ j) xs ⊎ (first_batch past j ≡ None) → Has (λ (x : Numbered). x.number ≡ j) xs ⊎ (batch_of past j ≡ null_batch)
    known j (inl has) = inl has
    known j (inr o) = inr (ap (λ x. option_map_or (λ batch. batch) x null_batch) o)

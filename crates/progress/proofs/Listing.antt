-- Whatever a replica has logged and prepared, some view change says it.
use Rattle.std.proofs.Common.{◌≡◌, ◌≢◌, ℕ, zero, suc, ◌+◌, ◌^◌, ◌≤◌, ◌<◌, ◌⊎◌, inl, inr, Bool, true, false, not, cond, ◌&&◌, List, [], ◌∷◌, ◌++◌, map, reverse, filter, Option, Some, None, refl, sym, ap, ◌∙◌, subst, arith, eqb-true, bytes_eq}
use Rattle.std.specs.Prelude.{◌==◌, nat_lt, nat_le}
use Rattle.std.proofs.lemmas.Bool.{and_from, lt-ltb, le-leb, eqb-false}
use Rattle.std.proofs.lemmas.Slice.Eq.{bytes_eq-Decides}
use Rattle.sha2.specs.Sha256.{sha256}
use Rattle.wire_format.specs.Lists.{Each}
use Rattle.wire_format.specs.Messages.{BatchEntryData as BatchEntry}
use Rattle.protocol.specs.System.Configuration.{Configuration, span, is_number}
use Rattle.protocol.specs.System.Trace.{Entry, Always, Has}
use Rattle.protocol.specs.Replica.Certificates.{view, low, is_in_marks, logged, Prepared}
use Rattle.protocol.specs.Replica.RightReplica.{checkpoint_of, kept_states, IsPreparedList, IsPrePreparedList}
use Rattle.protocol.proofs.Words.Options.{some_injective}
use Rattle.protocol.proofs.Words.Elements.{each_has, each_weaker, each_append, each_filtered, has_left, has_right, has_filtered}
use Rattle.protocol.proofs.Agreement.Changes.{logged_within}
use Rattle.protocol.proofs.Agreement.Offers.{logged_view}
use Rattle.protocol.proofs.Agreement.Voting.{RightAt, right_always}
use Rattle.protocol.proofs.Words.Pairs.{Pairs, all_pairs}
use Rattle.progress.specs.Leaving.{ViewChangesExist}
use Rattle.progress.proofs.Committing.{decide_prepared}
use Rattle.progress.proofs.Steady.{marks_parts}

-- ---- pairs in a list

pairs_append : {A : Type 0} (R : A → A → Type 0) (xs ys : List A) → Pairs R xs → Pairs R ys → Each (λ x. Each (R x) ys) xs → Pairs R (xs ++ ys)
pairs_append R [] ys h k m = k
pairs_append R (x ∷ xs) ys h k m = (each_append (R x) xs ys h.0 m.0, pairs_append R xs ys h.1 k m.1)

pairs_filter : {A : Type 0} (R : A → A → Type 0) (test : A → Bool) (xs : List A) → Pairs R xs → Pairs R (filter test xs)
pairs_filter R test [] h = tt
pairs_filter R test (x ∷ xs) h = go (test x) (each_filtered (R x) (R x) test (λ y t r. r) xs h.0) (pairs_filter R test xs h.1)
  where
    go : (b : Bool) → Each (R x) (filter test xs) → Pairs R (filter test xs) → Pairs R (cond b (x ∷ filter test xs) (filter test xs))
    go true e p = (e, p)
    go false e p = p

pairs_weaker : {A : Type 0} (R S : A → A → Type 0) → ((x y : A) → R x y → S x y) → (xs : List A) → Pairs R xs → Pairs S xs
pairs_weaker R S f [] h = tt
pairs_weaker R S f (x ∷ xs) h = (each_weaker (R x) (S x) (f x) xs h.0, pairs_weaker R S f xs h.1)

-- each element of one list with all of the other
each_each : {A : Type 0} (P Q : A → Type 0) (R : A → A → Type 0) → ((x y : A) → P x → Q y → R x y) → (xs ys : List A) → Each P xs → Each Q ys → Each (λ x. Each (R x) ys) xs
each_each P Q R f [] ys h k = tt
each_each P Q R f (x ∷ xs) ys h k = (each_weaker Q (R x) (λ y q. f x y h.0 q) ys k, each_each P Q R f xs ys h.1 k)

module _ (c : Configuration) (me : ℕ) (past : List Entry) (right : Always (RightAt c me) past) where
  -- nothing is logged in a view above the replica's own
  logged_below : (w i : ℕ) (b : List ℕ) → logged c me past w i ≡ Some b → w < suc (view c past)
  logged_below w i b h = let l = logged_view c me w i b past right h in omega arith

  -- ---- the batch that is prepared for a number, in the latest view

  record Latest (i n : ℕ) : Type 0 where
    entry : BatchEntry
    number : entry.number ≡ i
    batch : List ℕ
    prepared : Prepared c me past entry.view i batch
    digest : sha256 batch ≡ entry.digest
    highest : (v : ℕ) (b : List ℕ) → entry.view < v → v < n → Prepared c me past v i b → ⊥

  abbrev NonePrepared : ℕ → ℕ → Type 0
  NonePrepared i n = (v : ℕ) (b : List ℕ) → v < n → Prepared c me past v i b → ⊥

  prepared_in : (v i : ℕ) → ((b : List ℕ) × Prepared c me past v i b) ⊎ ((b : List ℕ) → Prepared c me past v i b → ⊥)
  prepared_in v i = go (logged c me past v i) refl
    where
      pick : (b : List ℕ) → logged c me past v i ≡ Some b → Prepared c me past v i b ⊎ (Prepared c me past v i b → ⊥) → ((b : List ℕ) × Prepared c me past v i b) ⊎ ((b : List ℕ) → Prepared c me past v i b → ⊥)
      pick b is (inl p) = inl (b, p)
      pick b is (inr never) = inr (λ d p. never (subst (λ (x : List ℕ). Prepared c me past v i x) (some_injective d b (sym p.logged ∙ is)) p))

      go : (o : Option (List ℕ)) → logged c me past v i ≡ o → ((b : List ℕ) × Prepared c me past v i b) ⊎ ((b : List ℕ) → Prepared c me past v i b → ⊥)
      go None is = inr (λ b p. let bad : None ≡ Some b = sym is ∙ p.logged in cc)
      go (Some b) is = pick b is (decide_prepared c me v i b past)

  latest_with : (i n : ℕ) → ((b : List ℕ) × Prepared c me past n i b) ⊎ ((b : List ℕ) → Prepared c me past n i b → ⊥) → Latest i n ⊎ NonePrepared i n → Latest i (suc n) ⊎ NonePrepared i (suc n)
  latest_with i n (inl x) rest = inl (record { entry = record { number = i; digest = sha256 x.0; view = n }; number = refl; batch = x.0; prepared = x.1; digest = refl; highest = λ v b above below p. absurd (omega arith) })
  latest_with i n (inr never) (inl l) = inl (record { entry = l.entry; number = l.number; batch = l.batch; prepared = l.prepared; digest = l.digest; highest = highest })
    where
      highest : (v : ℕ) (b : List ℕ) → l.entry.view < v → v < suc n → Prepared c me past v i b → ⊥
      highest v b above below p = go (v == n) refl
        where
          go : (t : Bool) → (v == n) ≡ t → ⊥
          go true e = never b (subst (λ (x : ℕ). Prepared c me past x i b) (eqb-true v n e) p)
          go false e = let d = eqb-false v n e in let m : v < n = omega arith in l.highest v b above m p
  latest_with i n (inr never) (inr none) = inr still
    where
      still : NonePrepared i (suc n)
      still v b below p = go (v == n) refl
        where
          go : (t : Bool) → (v == n) ≡ t → ⊥
          go true e = never b (subst (λ (x : ℕ). Prepared c me past x i b) (eqb-true v n e) p)
          go false e = let d = eqb-false v n e in let m : v < n = omega arith in none v b m p

  latest_in : (i n : ℕ) → Latest i n ⊎ NonePrepared i n
  latest_in i zero = inr (λ v b l p. absurd (omega arith))
  latest_in i (suc n) = latest_with i n (prepared_in n i) (latest_in i n)

  -- ---- the list of these

  abbrev views : ℕ
  views = suc (view c past)

  record IsGood (e : BatchEntry) : Type 0 where
    batch : List ℕ
    prepared : Prepared c me past e.view e.number batch
    digest : sha256 batch ≡ e.digest
    highest : (v : ℕ) (b : List ℕ) → e.view < v → v < suc (view c past) → Prepared c me past v e.number b → ⊥

  record PreparedFrom (first n : ℕ) : Type 0 where
    entries : List BatchEntry
    above : Each (λ e. first ≤ e.number) entries
    each : Each IsGood entries
    all : (v i : ℕ) (b : List ℕ) → first ≤ i → i < first + n → Prepared c me past v i b → Has (λ e. e.number ≡ i) entries
    order : Pairs (λ x y. x.number < y.number) entries

  good_of : (i : ℕ) (l : Latest i (suc (view c past))) → IsGood l.entry
  good_of i l = record {
    batch = l.batch;
    prepared = subst (λ (j : ℕ). Prepared c me past l.entry.view j l.batch) (sym l.number) l.prepared;
    digest = l.digest;
    highest = λ v b above below p. l.highest v b above below (subst (λ (j : ℕ). Prepared c me past v j b) l.number p);
  }

  prepared_with : (first n : ℕ) → Latest first (suc (view c past)) ⊎ NonePrepared first (suc (view c past)) → PreparedFrom (suc first) n → PreparedFrom first (suc n)
  prepared_with first n (inl l) rest = record {
    entries = l.entry ∷ rest.entries;
    above = ((let is = l.number in omega arith), each_weaker (λ e. suc first ≤ e.number) (λ e. first ≤ e.number) (λ e a. omega arith) rest.entries rest.above);
    each = (good_of first l, rest.each);
    all = all;
    order = (each_weaker (λ e. suc first ≤ e.number) (λ e. l.entry.number < e.number) (λ e a. let is = l.number in omega arith) rest.entries rest.above, rest.order);
  }
    where
      all : (v i : ℕ) (b : List ℕ) → first ≤ i → i < first + suc n → Prepared c me past v i b → Has (λ e. e.number ≡ i) (l.entry ∷ rest.entries)
      all v i b a m p = go (first == i) refl
        where
          go : (t : Bool) → (first == i) ≡ t → Has (λ e. e.number ≡ i) (l.entry ∷ rest.entries)
          go true e = inl (l.number ∙ eqb-true first i e)
          go false e =
              let d = eqb-false first i e in
              inr (rest.all v i b (omega arith) (omega arith) p)
  prepared_with first n (inr none) rest = record {
    entries = rest.entries;
    above = each_weaker (λ e. suc first ≤ e.number) (λ e. first ≤ e.number) (λ e a. omega arith) rest.entries rest.above;
    each = rest.each;
    all = all;
    order = rest.order;
  }
    where
      all : (v i : ℕ) (b : List ℕ) → first ≤ i → i < first + suc n → Prepared c me past v i b → Has (λ e. e.number ≡ i) rest.entries
      all v i b a m p = go (first == i) refl
        where
          go : (t : Bool) → (first == i) ≡ t → Has (λ e. e.number ≡ i) rest.entries
          go true e =
              absurd (none v b (logged_below v i b p.logged) (subst (λ (j : ℕ). Prepared c me past v j b) (sym (eqb-true first i e)) p))
          go false e =
              let d = eqb-false first i e in
              rest.all v i b (omega arith) (omega arith) p

  prepared_from : (first n : ℕ) → PreparedFrom first n
  prepared_from first zero = record { entries = []; above = tt; each = tt; all = λ v i b l m p. absurd (omega arith); order = tt }
  prepared_from first (suc n) = prepared_with first n (latest_in first (suc (view c past))) (prepared_from (suc first) n)

  -- numbers that are logged above the low mark are within the marks
  marks_of : (v i : ℕ) (b : List ℕ) → suc (low c me past) ≤ i → logged c me past v i ≡ Some b → is_in_marks c (low c me past) i ≡ true
  marks_of v i b l h =
      let w = logged_within c me v i b past right h in
      and_from (nat_lt (low c me past) i && nat_le i (low c me past + span c)) (is_number i)
      (and_from (nat_lt (low c me past) i) (nat_le i (low c me past + span c)) (lt-ltb (low c me past) i l) (le-leb i (low c me past + span c) w.0)) (lt-ltb i (2 ^ 48) w.1)

  prepareds : PreparedFrom (suc (low c me past)) (span c)
  prepareds = prepared_from (suc (low c me past)) (span c)

  pub prepared_entries : List BatchEntry
  prepared_entries = prepareds.entries

  pub is_prepared_list : IsPreparedList c me past prepared_entries
  unfolding prepared_entries
  is_prepared_list = record { listed = listed; all = all; ascending = all_pairs (λ x y. x.number < y.number) prepareds.entries prepareds.order }
    where
      listed : (e : BatchEntry) → Has (λ x. x ≡ e) prepareds.entries
          → ((batch : List ℕ) × Prepared c me past e.view e.number batch × (sha256 batch ≡ e.digest)) × (is_in_marks c (low c me past) e.number ≡ true)
          × ((v : ℕ) (batch : List ℕ) → e.view < v → Prepared c me past v e.number batch → ⊥)
      listed e h =
          let g = each_has IsGood prepareds.entries e prepareds.each h in
          let a = each_has (λ (x : BatchEntry). suc (low c me past) ≤ x.number) prepareds.entries e prepareds.above h in
          ((g.batch, g.prepared, g.digest), marks_of e.view e.number g.batch a g.prepared.logged, λ v b above p. g.highest v b above (logged_below v e.number b p.logged) p)

      all : (v i : ℕ) (b : List ℕ) → is_in_marks c (low c me past) i ≡ true → Prepared c me past v i b → Has (λ x. x.number ≡ i) prepareds.entries
      all v i b marks p =
          let m = marks_parts c (low c me past) i marks in
          let l = m.0 in
          let k = m.1 in
          prepareds.all v i b (omega arith) (omega arith) p

  -- ---- each digest that was pre-prepared for a number

  record IsLogged (i : ℕ) (e : BatchEntry) : Type 0 where
    number : e.number ≡ i
    batch : List ℕ
    is_there : logged c me past e.view i ≡ Some batch
    digest : sha256 batch ≡ e.digest

  record Digests (i n : ℕ) : Type 0 where
    entries : List BatchEntry
    each : Each (IsLogged i) entries
    all : (v : ℕ) (b : List ℕ) → v < n → logged c me past v i ≡ Some b → Has (λ x. (x.number ≡ i) × (x.digest ≡ sha256 b) × (v ≤ x.view)) entries
    differ : Pairs (λ x y. x.digest ≢ y.digest) entries

  is_other : List ℕ → BatchEntry → Bool
  is_other d e = not (bytes_eq e.digest d)

  digests_with : (i n : ℕ) (o : Option (List ℕ)) → logged c me past n i ≡ o → Digests i n → Digests i (suc n)
  unfolding is_other
  digests_with i n None is rest = record { entries = rest.entries; each = rest.each; all = all; differ = rest.differ }
    where
      all : (v : ℕ) (b : List ℕ) → v < suc n → logged c me past v i ≡ Some b → Has (λ x. (x.number ≡ i) × (x.digest ≡ sha256 b) × (v ≤ x.view)) rest.entries
      all v b l h = go (v == n) refl
        where
          go : (t : Bool) → (v == n) ≡ t → Has (λ x. (x.number ≡ i) × (x.digest ≡ sha256 b) × (v ≤ x.view)) rest.entries
          go true e = absurd (let here : logged c me past n i ≡ Some b = subst (λ (x : ℕ). logged c me past x i ≡ Some b) (eqb-true v n e) h in let bad : None ≡ Some b = sym is ∙ here in cc)
          go false e = let d = eqb-false v n e in let m : v < n = omega arith in rest.all v b m h
  digests_with i n (Some x) is rest = record {
    entries = new ∷ filter (is_other (sha256 x)) rest.entries;
    each = (record { number = refl; batch = x; is_there = is; digest = refl }, each_filtered (IsLogged i) (IsLogged i) (is_other (sha256 x)) (λ e t h. h) rest.entries rest.each);
    all = all;
    differ = (each_filtered (IsLogged i) (λ y. sha256 x ≢ y.digest) (is_other (sha256 x)) apart rest.entries rest.each, pairs_filter (λ a b. a.digest ≢ b.digest) (is_other (sha256 x)) rest.entries rest.differ);
  }
    where
      new : BatchEntry
      new = record { number = i; digest = sha256 x; view = n }

      apart : (e : BatchEntry) → not (bytes_eq e.digest (sha256 x)) ≡ true → IsLogged i e → sha256 x ≢ e.digest
      apart e t h same = let bad : not true ≡ true = sym (ap not ((bytes_eq-Decides e.digest (sha256 x)).1 (sym same))) ∙ t in cc

      all : (v : ℕ) (b : List ℕ) → v < suc n → logged c me past v i ≡ Some b → Has (λ y. (y.number ≡ i) × (y.digest ≡ sha256 b) × (v ≤ y.view)) (new ∷ filter (is_other (sha256 x)) rest.entries)
      all v b l h = go (bytes_eq (sha256 b) (sha256 x)) refl (v == n) refl
        where
          go : (t : Bool) → bytes_eq (sha256 b) (sha256 x) ≡ t → (u : Bool) → (v == n) ≡ u → Has (λ y. (y.number ≡ i) × (y.digest ≡ sha256 b) × (v ≤ y.view)) (new ∷ filter (is_other (sha256 x)) rest.entries)
          go true e u f = inl (refl, sym ((bytes_eq-Decides (sha256 b) (sha256 x)).0 e), omega arith)
          go false e true f =
              let same : x ≡ b = some_injective x b (sym is ∙ (subst (λ (k : ℕ). logged c me past k i ≡ Some b) (eqb-true v n f) h)) in
              inl (refl, ap sha256 same, omega arith)
          go false e false f =
              let d = eqb-false v n f in
              inr (has_filtered (λ y. (y.number ≡ i) × (y.digest ≡ sha256 b) × (v ≤ y.view)) (is_other (sha256 x))
              (λ y k. ap (λ (z : List ℕ). not (bytes_eq z (sha256 x))) k.1 ∙ ap not e) rest.entries (rest.all v b (omega arith) h))

  digests_in : (i n : ℕ) → Digests i n
  digests_in i zero = record { entries = []; each = tt; all = λ v b l h. absurd (omega arith); differ = tt }
  digests_in i (suc n) = digests_with i n (logged c me past n i) refl (digests_in i n)

  record IsProposed (first : ℕ) (e : BatchEntry) : Type 0 where
    above : first ≤ e.number
    batch : List ℕ
    is_there : logged c me past e.view e.number ≡ Some batch
    digest : sha256 batch ≡ e.digest

  record ProposedFrom (first n : ℕ) : Type 0 where
    entries : List BatchEntry
    each : Each (IsProposed first) entries
    all : (v i : ℕ) (b : List ℕ) → first ≤ i → i < first + n → logged c me past v i ≡ Some b → Has (λ x. (x.number ≡ i) × (x.digest ≡ sha256 b) × (v ≤ x.view)) entries
    differ : Pairs (λ x y. (x.number ≡ y.number) → x.digest ≢ y.digest) entries

  proposed_with : (first n : ℕ) → Digests first (suc (view c past)) → ProposedFrom (suc first) n → ProposedFrom first (suc n)
  proposed_with first n d rest = record {
    entries = d.entries ++ rest.entries;
    each = each_append (IsProposed first) d.entries rest.entries (each_weaker (IsLogged first) (IsProposed first) own d.entries d.each) (each_weaker (IsProposed (suc first)) (IsProposed first) later rest.entries rest.each);
    all = all;
    differ = pairs_append (λ x y. (x.number ≡ y.number) → x.digest ≢ y.digest) d.entries rest.entries
        (pairs_weaker (λ x y. x.digest ≢ y.digest) (λ x y. (x.number ≡ y.number) → x.digest ≢ y.digest) (λ x y r s. r) d.entries d.differ) rest.differ
        (each_each (IsLogged first) (IsProposed (suc first)) (λ x y. (x.number ≡ y.number) → x.digest ≢ y.digest) (λ x y p q same. let a = p.number in let b = q.above in absurd (omega arith)) d.entries rest.entries d.each rest.each);
  }
    where
      own : (e : BatchEntry) → IsLogged first e → IsProposed first e
      own e h = record { above = (let is = h.number in omega arith); batch = h.batch; is_there = subst (λ (j : ℕ). logged c me past e.view j ≡ Some h.batch) (sym h.number) h.is_there; digest = h.digest }

      later : (e : BatchEntry) → IsProposed (suc first) e → IsProposed first e
      later e h = record { above = (let a = h.above in omega arith); batch = h.batch; is_there = h.is_there; digest = h.digest }

      all : (v i : ℕ) (b : List ℕ) → first ≤ i → i < first + suc n → logged c me past v i ≡ Some b → Has (λ x. (x.number ≡ i) × (x.digest ≡ sha256 b) × (v ≤ x.view)) (d.entries ++ rest.entries)
      all v i b a m h = go (first == i) refl
        where
          go : (t : Bool) → (first == i) ≡ t → Has (λ x. (x.number ≡ i) × (x.digest ≡ sha256 b) × (v ≤ x.view)) (d.entries ++ rest.entries)
          go true e =
              let same = eqb-true first i e in
              has_left (λ x. (x.number ≡ i) × (x.digest ≡ sha256 b) × (v ≤ x.view)) d.entries rest.entries
              (subst (λ (j : ℕ). Has (λ (x : BatchEntry). (x.number ≡ j) × (x.digest ≡ sha256 b) × (v ≤ x.view)) d.entries) same
              (d.all v b (logged_below v i b h) (subst (λ (j : ℕ). logged c me past v j ≡ Some b) (sym same) h)))
          go false e =
              let k = eqb-false first i e in
              let x : suc first ≤ i = omega arith in
              let y : i < suc first + n = omega arith in
              has_right (λ x. (x.number ≡ i) × (x.digest ≡ sha256 b) × (v ≤ x.view)) d.entries rest.entries (rest.all v i b x y h)

  proposed_from : (first n : ℕ) → ProposedFrom first n
  proposed_from first zero = record { entries = []; each = tt; all = λ v i b l m h. absurd (omega arith); differ = tt }
  proposed_from first (suc n) = proposed_with first n (digests_in first (suc (view c past))) (proposed_from (suc first) n)

  proposeds : ProposedFrom (suc (low c me past)) (span c)
  proposeds = proposed_from (suc (low c me past)) (span c)

  pub proposed_entries : List BatchEntry
  proposed_entries = proposeds.entries

  pub is_proposed_list : IsPrePreparedList c me past proposed_entries
  unfolding proposed_entries
  is_proposed_list = record { listed = listed; all = all; differ = all_pairs (λ x y. (x.number ≡ y.number) → x.digest ≢ y.digest) proposeds.entries proposeds.differ }
    where
      listed : (e : BatchEntry) → Has (λ x. x ≡ e) proposeds.entries
          → ((batch : List ℕ) × (logged c me past e.view e.number ≡ Some batch) × (sha256 batch ≡ e.digest)) × (is_in_marks c (low c me past) e.number ≡ true)
      listed e h =
          let g = each_has (IsProposed (suc (low c me past))) proposeds.entries e proposeds.each h in
          ((g.batch, g.is_there, g.digest), marks_of e.view e.number g.batch g.above g.is_there)

      all : (v i : ℕ) (b : List ℕ) → is_in_marks c (low c me past) i ≡ true → logged c me past v i ≡ Some b → Has (λ x. (x.number ≡ i) × (x.digest ≡ sha256 b) × (v ≤ x.view)) proposeds.entries
      all v i b marks h =
          let m = marks_parts c (low c me past) i marks in
          let l = m.0 in
          let k = m.1 in
          proposeds.all v i b (omega arith) (omega arith) h

pub view_changes_exist : ViewChangesExist
view_changes_exist c me past point behind leaves v above newer small reason = (
  record { view = v; low = low c me past; checkpoints = map checkpoint_of (reverse (kept_states (low c me past) point.snapshots)); prepared = prepared_entries c me past right; pre_prepared = proposed_entries c me past right },
  refl,
  record {
    above = above;
    newer = newer;
    is_view = small;
    low = refl;
    checkpoints = refl;
    prepared = is_prepared_list c me past right;
    proposed = is_proposed_list c me past right;
    reason = reason;
  },
)
  where
    right : Always (RightAt c me) past
    right = right_always c me past behind leaves

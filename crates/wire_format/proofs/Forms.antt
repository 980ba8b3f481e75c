-- Laws of the forms of readers: each value that a reader gives is spelled at the front, and each spelled value is
-- read again.
use Rattle.std.proofs.Common.{◌≡◌, ℕ, zero, suc, ◌+◌, Bool, true, false, ◌&&◌, cond, List, [], ◌∷◌, ◌++◌, length}
use Rattle.std.proofs.Common.{Option, Some, None, ap, sym, subst, refl, ◌∙◌, arith, append_assoc, append-nil}
use Rattle.std.proofs.Common.{length-append}
use Rattle.std.proofs.lemmas.Bool.{and_parts, and_from}
use Rattle.std.specs.Bool.{then_some}
use Rattle.tuple_tree.specs.Values.{AreBytes}
use Rattle.tuple_tree.specs.Reading.{◌>>=◌, Reader, read_as}
use Rattle.tuple_tree.proofs.Readers.{Found, Again, bind_some, parts, guard_holds, moved}
use Rattle.tuple_codec.proofs.Grammar.{Reads}
use Rattle.wire_format.specs.Lists.{Each, each_spelling, ascends}
use Rattle.wire_format.specs.Reading.{both, passing, more_at, counted_at, anyhow, comes_after, whole_value}

-- the value passed the test
pub passed_on : {A : Type 0} (b : Bool) (x y : A) → then_some b x ≡ Some y → (b ≡ true) × (Some x ≡ Some y)
passed_on true x y e = (refl, e)
passed_on false x y e = absurd (let g : ⊥ = cc in g)

-- ---- one value after another

module _ {A B : Type 0} (IsA : A → Type 0) (IsB : B → Type 0) (a_spelling : A → List ℕ) (b_spelling : B → List ℕ) (at : Reader A) (next : Reader B) where
  abbrev pub IsBoth : A × B → Type 0
  IsBoth p = IsA p.0 × IsB p.1

  abbrev pub both_spelling : A × B → List ℕ
  both_spelling p = a_spelling p.0 ++ b_spelling p.1

  both_found : Found IsA a_spelling at → Found IsB b_spelling next → Found IsBoth both_spelling (both at next)
  both_found first second bs rest v h e =
      let k = bind_some (at bs) (λ x. next x.1 >>= λ y. Some ((x.0, y.0), y.1)) (v, rest) e in
      let a = first bs k.0.1 k.0.0 h k.1 in
      let m = bind_some (next k.0.1) (λ y. Some ((k.0.0, y.0), y.1)) (v, rest) k.2 in
      let b = second k.0.1 m.0.1 m.0.0 a.0.bytes m.1 in
      let p = parts m.2 in
      moved IsBoth both_spelling bs
      (record { whole = a.0.whole ∙ ap (λ xs. a_spelling k.0.0 ++ xs) b.0.whole ∙ sym (append_assoc (a_spelling k.0.0) (b_spelling m.0.0) m.0.1); bytes = b.0.bytes }, (a.1, b.1)) p.0 p.1

  both_again : Again IsA a_spelling at → Again IsB b_spelling next → Again IsBoth both_spelling (both at next)
  both_again first second v rest h =
      ap (both at next) (append_assoc (a_spelling v.0) (b_spelling v.1) rest)
      ∙ ap (λ o. o >>= λ x. next x.1 >>= λ y. Some ((x.0, y.0), y.1)) (first v.0 (b_spelling v.1 ++ rest) h.0)
      ∙ ap (λ o. o >>= λ y. Some ((v.0, y.0), y.1)) (second v.1 rest h.1)

  pub both_reads : Reads IsA a_spelling at → Reads IsB b_spelling next → Reads IsBoth both_spelling (both at next)
  both_reads first second = record { found = both_found first.found second.found; again = both_again first.again second.again }

-- ---- values that pass a test

module _ {A : Type 0} (IsA : A → Type 0) (spelling : A → List ℕ) (test : A → Bool) (at : Reader A) where
  abbrev pub IsPassing : A → Type 0
  IsPassing x = IsA x × (test x ≡ true)

  pub passing_found : Found IsA spelling at → Found IsPassing spelling (passing test at)
  passing_found reads bs rest v h e =
      let k = bind_some (at bs) (λ x. then_some (test x.0) x) (v, rest) e in
      let a = reads bs k.0.1 k.0.0 h k.1 in
      let g = passed_on (test k.0.0) k.0 (v, rest) k.2 in
      let p = parts g.1 in
      moved IsPassing spelling bs (a.0, (a.1, g.0)) p.0 p.1

  passing_again : Again IsA spelling at → Again IsPassing spelling (passing test at)
  passing_again reads v rest h =
      ap (λ o. o >>= λ x. then_some (test x.0) x) (reads v rest h.0) ∙ ap (λ b. then_some b (v, rest)) h.1

  pub passing_reads : Reads IsA spelling at → Reads IsPassing spelling (passing test at)
  passing_reads reads = record { found = passing_found reads.found; again = passing_again reads.again }

-- ---- as another value

module _ {A B : Type 0} (IsA : A → Type 0) (IsB : B → Type 0) (a_spelling : A → List ℕ) (b_spelling : B → List ℕ) (f : A → B) (at : Reader A) where
  pub as_found : ((x : A) → IsA x → IsB (f x) × (a_spelling x ≡ b_spelling (f x))) → Found IsA a_spelling at → Found IsB b_spelling (read_as f at)
  as_found law reads bs rest v h e =
      let k = bind_some (at bs) (λ x. Some (f x.0, x.1)) (v, rest) e in
      let a = reads bs k.0.1 k.0.0 h k.1 in
      let l = law k.0.0 a.1 in
      let p = parts k.2 in
      moved IsB b_spelling bs (record { whole = a.0.whole ∙ ap (λ xs. xs ++ k.0.1) l.1; bytes = a.0.bytes }, l.0) p.0 p.1

  pub as_again : (x : A) (rest : List ℕ) → Again IsA a_spelling at → IsA x → read_as f at (a_spelling x ++ rest) ≡ Some (f x, rest)
  as_again x rest reads h = ap (λ o. o >>= λ x. Some (f x.0, x.1)) (reads x rest h)

  -- if each value is made of parts
  pub as_reads : (g : B → A) → ((x : A) → IsA x → IsB (f x) × (a_spelling x ≡ b_spelling (f x))) → ((v : B) → IsB v → IsA (g v) × (f (g v) ≡ v)) → Reads IsA a_spelling at → Reads IsB b_spelling (read_as f at)
  as_reads g law back reads = record {
    found = as_found law reads.found;
    again = λ v rest h.
        let b = back v h in
        let s : a_spelling (g v) ≡ b_spelling v = (law (g v) b.0).1 ∙ ap b_spelling b.1 in
        ap (λ xs. read_as f at (xs ++ rest)) (sym s) ∙ as_again (g v) rest reads.again b.0 ∙ ap (λ w. Some (w, rest)) b.1;
  }

-- ---- several

each_last : {A : Type 0} (P : A → Type 0) (xs : List A) (x : A) → Each P xs → P x → Each P (xs ++ x ∷ [])
each_last P [] x h p = (p, tt)
each_last P (y ∷ ys) x h p = (h.0, each_last P ys x h.1 p)

each_spelling_last : {A : Type 0} (s : A → List ℕ) (xs : List A) (x : A) → each_spelling s (xs ++ x ∷ []) ≡ each_spelling s xs ++ s x
each_spelling_last s [] x = append-nil (s x)
each_spelling_last s (y ∷ ys) x = ap (λ zs. s y ++ zs) (each_spelling_last s ys x) ∙ sym (append_assoc (s y) (each_spelling s ys) (s x))

-- ys is xs with n more, which stood at the front of bs
pub record Onto {A : Type 0} (IsA : A → Type 0) (spelling : A → List ℕ) (Fits : List A → Bool) (xs ys : List A) (n : ℕ) (bs rest : List ℕ) : Type 0 where
  pub whole : each_spelling spelling xs ++ bs ≡ each_spelling spelling ys ++ rest
  pub bytes : AreBytes rest
  pub number : length ys ≡ length xs + n
  pub each : Each IsA ys
  pub fit : Fits ys ≡ true

module _ {A : Type 0} (IsA : A → Type 0) (spelling : A → List ℕ) (at : Reader A) (fits : List A → A → Bool) (Fits : List A → Bool) (grows : (xs : List A) (x : A) → Fits (xs ++ x ∷ []) ≡ Fits xs && fits xs x) where
  pub more_found : Found IsA spelling at → (n : ℕ) (xs ys : List A) (bs rest : List ℕ) → AreBytes bs → Each IsA xs → Fits xs ≡ true → more_at at fits n xs bs ≡ Some (ys, rest) → Onto IsA spelling Fits xs ys n bs rest
  more_found reads zero xs ys bs rest h d f e =
      let p = parts e in
      record {
        whole = ap (λ x. each_spelling spelling x ++ bs) p.0 ∙ ap (λ x. each_spelling spelling ys ++ x) p.1;
        bytes = subst AreBytes p.1 h;
        number = ap length (sym p.0) ∙ omega arith;
        each = subst (Each IsA) p.0 d;
        fit = ap Fits (sym p.0) ∙ f;
      }
  more_found reads (suc n) xs ys bs rest h d f e =
      let k = bind_some (at bs) (λ x. cond (fits xs x.0) (more_at at fits n (xs ++ x.0 ∷ []) x.1) None) (ys, rest) e in
      let x = k.0.0 in
      let after = k.0.1 in
      let a = reads bs after x h k.1 in
      let g = guard_holds (fits xs x) (more_at at fits n (xs ++ x ∷ []) after) (ys, rest) k.2 in
      let good : Fits (xs ++ x ∷ []) ≡ true = grows xs x ∙ and_from _ _ f g.0 in
      let r = more_found reads n (xs ++ x ∷ []) ys after rest a.0.bytes (each_last IsA xs x d a.1) good g.1 in
      record {
        whole = ap (λ zs. each_spelling spelling xs ++ zs) a.0.whole ∙ sym (append_assoc (each_spelling spelling xs) (spelling x) after) ∙ ap (λ zs. zs ++ after) (sym (each_spelling_last spelling xs x)) ∙ r.whole;
        bytes = r.bytes;
        number = omega (arith, r.number, length-append xs (x ∷ []));
        each = r.each;
        fit = r.fit;
      }

  -- if a list fits, each front of it fits
  pub front_fits : (ys xs : List A) → Fits (xs ++ ys) ≡ true → Fits xs ≡ true
  front_fits [] xs f = ap Fits (sym (append-nil xs)) ∙ f
  front_fits (y ∷ ys) xs f =
      let g : Fits (xs ++ y ∷ []) ≡ true = front_fits ys (xs ++ y ∷ []) (ap Fits (append_assoc xs (y ∷ []) ys) ∙ f) in
      (and_parts (Fits xs) (fits xs y) (sym (grows xs y) ∙ g)).0

  pub more_again : Again IsA spelling at → (ys xs : List A) (rest : List ℕ) → Each IsA ys → Fits (xs ++ ys) ≡ true → more_at at fits (length ys) xs (each_spelling spelling ys ++ rest) ≡ Some (xs ++ ys, rest)
  more_again reads [] xs rest h f = ap (λ zs. Some (zs, rest)) (sym (append-nil xs))
  more_again reads (y ∷ ys) xs rest h f =
      let all : Fits ((xs ++ y ∷ []) ++ ys) ≡ true = ap Fits (append_assoc xs (y ∷ []) ys) ∙ f in
      let g : Fits (xs ++ y ∷ []) ≡ true = front_fits ys (xs ++ y ∷ []) all in
      let one : fits xs y ≡ true = (and_parts (Fits xs) (fits xs y) (sym (grows xs y) ∙ g)).1 in
      ap (λ bs. more_at at fits (suc (length ys)) xs bs) (append_assoc (spelling y) (each_spelling spelling ys) rest)
      ∙ ap (λ o. o >>= λ x. cond (fits xs x.0) (more_at at fits (length ys) (xs ++ x.0 ∷ []) x.1) None) (reads y (each_spelling spelling ys ++ rest) h.0)
      ∙ ap (λ b. cond b (more_at at fits (length ys) (xs ++ y ∷ []) (each_spelling spelling ys ++ rest)) None) one
      ∙ more_again reads ys (xs ++ y ∷ []) rest h.1 all
      ∙ ap (λ zs. Some (zs, rest)) (append_assoc xs (y ∷ []) ys)

  -- a count, and so many
  module _ (IsCount : ℕ → Type 0) (count_spelling : ℕ → List ℕ) (count : Reader ℕ) where
    abbrev pub IsCounted : List A → Type 0
    IsCounted xs = IsCount (length xs) × (Each IsA xs × (Fits xs ≡ true))

    abbrev pub counted_spelling : List A → List ℕ
    counted_spelling xs = count_spelling (length xs) ++ each_spelling spelling xs

    pub counted_reads : Fits [] ≡ true → Reads IsCount count_spelling count → Reads IsA spelling at → Reads IsCounted counted_spelling (counted_at count at fits)
    counted_reads empty counts reads = record {
      found = λ bs rest xs h e.
          let k = bind_some (count bs) (λ n. more_at at fits n.0 [] n.1) (xs, rest) e in
          let a = counts.found bs k.0.1 k.0.0 h k.1 in
          let r = more_found reads.found k.0.0 [] xs k.0.1 rest a.0.bytes tt empty k.2 in
          let n : k.0.0 ≡ length xs = omega (arith, r.number) in (
            record {
              whole = a.0.whole ∙ ap (λ zs. count_spelling k.0.0 ++ zs) r.whole ∙ ap (λ m. count_spelling m ++ (each_spelling spelling xs ++ rest)) n ∙ sym (append_assoc (count_spelling (length xs)) (each_spelling spelling xs) rest);
              bytes = r.bytes;
            },
            (subst IsCount n a.1, (r.each, r.fit)),
          );
      again = λ xs rest h.
          ap (counted_at count at fits) (append_assoc (count_spelling (length xs)) (each_spelling spelling xs) rest)
          ∙ ap (λ o. o >>= λ n. more_at at fits n.0 [] n.1) (counts.again (length xs) (each_spelling spelling xs ++ rest) h.0)
          ∙ more_again reads.again xs [] rest h.1.0 h.1.1;
    }

-- ---- lists that fit

pub anyhow_grows : {A : Type 0} (xs : List A) (x : A) → true ≡ true && anyhow xs x
anyhow_grows xs x = refl

and_assoc : (a b c : Bool) → a && (b && c) ≡ (a && b) && c
and_assoc true b c = refl
and_assoc false b c = refl

and_true : (a : Bool) → a && true ≡ a
and_true true = refl
and_true false = refl

pub ascends_grows : {A : Type 0} (before : A → A → Bool) (xs : List A) (x : A) → ascends before (xs ++ x ∷ []) ≡ ascends before xs && comes_after before xs x
ascends_grows before [] x = refl
ascends_grows before (y ∷ []) x = and_true (before y x)
ascends_grows before (y ∷ z ∷ ys) x = ap (λ b. before y z && b) (ascends_grows before (z ∷ ys) x) ∙ and_assoc (before y z) (ascends before (z ∷ ys)) (comes_after before (z ∷ ys) x)

-- ---- all of the bytes

pub all_some : {A : Type 0} (o : Option (A × List ℕ)) (v : A) → whole_value o ≡ Some v → o ≡ Some (v, [])
all_some None v e = absurd (let g : ⊥ = cc in g)
all_some (Some x) v e = ap (λ y. Some y) (ended x.0 x.1 v e)
  where
    ended : {A : Type 0} (x : A) (bs : List ℕ) (v : A) → whole_value (Some (x, bs)) ≡ Some v → ◌≡◌ {A = A × List ℕ} (x, bs) (v, [])
    ended {A = A} x [] v e = let h : x ≡ v = cc in let f : A → A × List ℕ = λ y. (y, []) in ap f h
    ended x (b ∷ bs) v e = absurd (let g : ⊥ = cc in g)

-- ---- a value's grammar with its reader

pub record Format (V : Type 0) : Type 1 where
  pub IsValue : V → Type 0
  pub spelling : V → List ℕ
  pub at : Reader V
  pub reads : Reads IsValue spelling at

abbrev pub both_of : {A B : Type 0} → Format A → Format B → Format (A × B)
both_of f g = record {
  IsValue = λ p. f.IsValue p.0 × g.IsValue p.1;
  spelling = λ p. f.spelling p.0 ++ g.spelling p.1;
  at = both f.at g.at;
  reads = both_reads f.IsValue g.IsValue f.spelling g.spelling f.at g.at f.reads g.reads;
}

abbrev pub passing_of : {A : Type 0} → (A → Bool) → Format A → Format A
passing_of test f = record {
  IsValue = λ x. f.IsValue x × (test x ≡ true);
  spelling = f.spelling;
  at = passing test f.at;
  reads = passing_reads f.IsValue f.spelling test f.at f.reads;
}

abbrev pub ascending_of : {A : Type 0} → (A → A → Bool) → Format ℕ → Format A → Format (List A)
ascending_of before c f = record {
  IsValue = λ xs. c.IsValue (length xs) × (Each f.IsValue xs × (ascends before xs ≡ true));
  spelling = λ xs. c.spelling (length xs) ++ each_spelling f.spelling xs;
  at = counted_at c.at f.at (comes_after before);
  reads = counted_reads f.IsValue f.spelling f.at (comes_after before) (ascends before) (ascends_grows before) c.IsValue c.spelling c.at refl c.reads f.reads;
}

abbrev pub several_of : {A : Type 0} → Format ℕ → Format A → Format (List A)
several_of c f = record {
  IsValue = λ xs. c.IsValue (length xs) × (Each f.IsValue xs × (true ≡ true));
  spelling = λ xs. c.spelling (length xs) ++ each_spelling f.spelling xs;
  at = counted_at c.at f.at anyhow;
  reads = counted_reads f.IsValue f.spelling f.at anyhow (λ xs. true) anyhow_grows c.IsValue c.spelling c.at refl c.reads f.reads;
}

-- as a value that is made of these parts
pub made_of : {A B : Type 0} (f : Format A) (IsB : B → Type 0) (b_spelling : B → List ℕ) (make : A → B) (g : B → A)
    → ((x : A) → f.IsValue x → IsB (make x) × (f.spelling x ≡ b_spelling (make x))) → ((v : B) → IsB v → f.IsValue (g v) × (make (g v) ≡ v)) → Reads IsB b_spelling (read_as make f.at)
made_of f IsB b_spelling make g law back = as_reads f.IsValue IsB f.spelling b_spelling make f.at g law back f.reads

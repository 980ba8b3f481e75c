-- The points in order: the ordered requests as they ran, each read after the requests of its number.
use Rattle.std.proofs.Common.{◌≡◌, ℕ, ◌-◌, ◌≤◌, ◌<◌, ◌⊎◌, inl, inr, Bool, true, false, cond, List, [], ◌∷◌, ◌++◌, map, filter, refl, sym, ap, ◌∙◌, subst, arith, ◌&&◌, ◌||◌, Option, Some, eqb-true}
use Rattle.std.specs.Prelude.{◌==◌, nat_lt, nat_le, ⊤}
use Rattle.std.proofs.lemmas.Bool.{ltb-true, ltb-false, leb-true, leb-false, eqb-false, le-leb, cases_order}
use Rattle.space.specs.Applying.{Contents, is_read_only}
use Rattle.space.proofs.Keeping.{read_same}
use Rattle.terms.specs.declared.order.Mode.{Mode}
use Rattle.terms.specs.declared.order.Mode.TheVariants as modes
use Rattle.protocol.specs.System.Frames.{same_mode}
use Rattle.protocol.specs.System.Trace.{Has}
use Rattle.protocol.specs.Space.Linear.{Item, item_outcome, item_after, LegalFrom, Placing, NeverFall, comes_before, insert_point, sorted}
use Rattle.protocol.proofs.Words.Options.{some_injective}

-- ---- lists

abbrev pub AllOf : {A : Type 0} → (A → Type 0) → List A → Type 0
AllOf P [] = ⊤
AllOf P (x ∷ xs) = P x × AllOf P xs

pub all_weaker : {A : Type 0} (P Q : A → Type 0) → ((x : A) → P x → Q x) → (xs : List A) → AllOf P xs → AllOf Q xs
all_weaker P Q f [] a = tt
all_weaker P Q f (x ∷ xs) a = (f x a.0, all_weaker P Q f xs a.1)

pub all_both : {A : Type 0} (P Q : A → Type 0) (xs : List A) → AllOf P xs → AllOf Q xs → AllOf (λ x. P x × Q x) xs
all_both P Q [] a b = tt
all_both P Q (x ∷ xs) a b = ((a.0, b.0), all_both P Q xs a.1 b.1)

pub all_append : {A : Type 0} (P : A → Type 0) (xs ys : List A) → AllOf P xs → AllOf P ys → AllOf P (xs ++ ys)
all_append P [] ys a b = b
all_append P (x ∷ xs) ys a b = (a.0, all_append P xs ys a.1 b)

pub all_filter : {A : Type 0} (P : A → Type 0) (keep : A → Bool) (xs : List A) → AllOf P xs → AllOf P (filter keep xs)
all_filter P keep [] a = tt
all_filter P keep (x ∷ xs) a = go (keep x) (all_filter P keep xs a.1)
  where
    go : (b : Bool) → AllOf P (filter keep xs) → AllOf P (cond b (x ∷ filter keep xs) (filter keep xs))
    go true below = (a.0, below)
    go false below = below

pub all_has : {A : Type 0} (P : A → Type 0) (xs : List A) (x : A) → AllOf P xs → Has (λ y. y ≡ x) xs → P x
all_has P [] x a h = absurd h
all_has P (y ∷ ys) x a (inl h) = subst P h a.0
all_has P (y ∷ ys) x a (inr h) = all_has P ys x a.1 h

abbrev pub Ascends : {A : Type 0} → (A → ℕ) → List A → Type 0
Ascends f [] = ⊤
Ascends f (x ∷ xs) = AllOf (λ y. f x ≤ f y) xs × Ascends f xs

pub filter_ascends : {A : Type 0} (f : A → ℕ) (keep : A → Bool) (xs : List A) → Ascends f xs → Ascends f (filter keep xs)
filter_ascends f keep [] a = tt
filter_ascends f keep (x ∷ xs) a = go (keep x) (filter_ascends f keep xs a.1)
  where
    go : (b : Bool) → Ascends f (filter keep xs) → Ascends f (cond b (x ∷ filter keep xs) (filter keep xs))
    go true below = (all_filter (λ y. f x ≤ f y) keep xs a.0, below)
    go false below = below

-- ---- the order of two points

pub comes_cases : (x y : Placing) → comes_before x y ≡ true → (x.item.position < y.item.position) ⊎ ((x.item.position ≡ y.item.position) × (x.number ≤ y.number))
comes_cases x y h = go (nat_lt x.item.position y.item.position) refl (x.item.position == y.item.position) refl (nat_lt x.number y.number) refl (x.number == y.number) refl h
  where
    go : (a : Bool) → nat_lt x.item.position y.item.position ≡ a → (b : Bool) → (x.item.position == y.item.position) ≡ b → (d : Bool) → nat_lt x.number y.number ≡ d → (e : Bool) → (x.number == y.number) ≡ e
        → (a || (b && (d || (e && (same_mode x.mode modes.Ordered || (same_mode y.mode modes.ReadOnly && (nat_lt x.item.client y.item.client || ((x.item.client == y.item.client) && nat_le x.item.timestamp y.item.timestamp)))))))) ≡ true
        → (x.item.position < y.item.position) ⊎ ((x.item.position ≡ y.item.position) × (x.number ≤ y.number))
    go true ea b eb d ed e ee h = inl (ltb-true x.item.position y.item.position ea)
    go false ea true eb true ed e ee h = let l = ltb-true x.number y.number ed in inr (eqb-true x.item.position y.item.position eb, omega arith)
    go false ea true eb false ed true ee h = let l = eqb-true x.number y.number ee in inr (eqb-true x.item.position y.item.position eb, omega arith)
    go false ea true eb false ed false ee h = absurd cc
    go false ea false eb d ed e ee h = absurd cc

pub comes_not_cases : (x y : Placing) → comes_before x y ≡ false
    → (y.item.position < x.item.position) ⊎ ((x.item.position ≡ y.item.position) × ((y.number < x.number) ⊎ ((x.number ≡ y.number) × (x.mode ≡ modes.ReadOnly))))
comes_not_cases x y h = go (nat_lt x.item.position y.item.position) refl (x.item.position == y.item.position) refl (nat_lt x.number y.number) refl (x.number == y.number) refl x.mode refl h
  where
    go : (a : Bool) → nat_lt x.item.position y.item.position ≡ a → (b : Bool) → (x.item.position == y.item.position) ≡ b → (d : Bool) → nat_lt x.number y.number ≡ d → (e : Bool) → (x.number == y.number) ≡ e
        → (r : Mode) → x.mode ≡ r
        → (a || (b && (d || (e && (same_mode r modes.Ordered || (same_mode y.mode modes.ReadOnly && (nat_lt x.item.client y.item.client || ((x.item.client == y.item.client) && nat_le x.item.timestamp y.item.timestamp)))))))) ≡ false
        → (y.item.position < x.item.position) ⊎ ((x.item.position ≡ y.item.position) × ((y.number < x.number) ⊎ ((x.number ≡ y.number) × (x.mode ≡ modes.ReadOnly))))
    go true ea b eb d ed e ee r er h = absurd cc
    go false ea true eb true ed e ee r er h = absurd cc
    go false ea true eb false ed true ee modes.ReadOnly er h = inr (eqb-true x.item.position y.item.position eb, inr (eqb-true x.number y.number ee, er))
    go false ea true eb false ed true ee modes.Ordered er h = absurd cc
    go false ea true eb false ed false ee r er h = let l = ltb-false x.number y.number ed in let n = eqb-false x.number y.number ee in inr (eqb-true x.item.position y.item.position eb, inl (omega arith))
    go false ea false eb d ed e ee r er h = let l = ltb-false x.item.position y.item.position ea in let n = eqb-false x.item.position y.item.position eb in inl (omega arith)

-- the point stands at or after the place of its number, and not after that of a later one
pub record Stands (place : ℕ → Option ℕ) (x : Placing) : Type 0 where
  pub at : ℕ
  pub is_at : place x.number ≡ Some at
  pub after : at ≤ x.item.position
  pub before : (k p : ℕ) → x.number < k → place k ≡ Some p → x.item.position ≤ p

-- and it stands at that place, as a request that ran does
pub record IsOrdered (place : ℕ → Option ℕ) (x : Placing) : Type 0 where
  pub stands : Stands place x
  pub exact : x.item.position ≤ stands.at
  pub mode_is : x.mode ≡ modes.Ordered

module _ (place : ℕ → Option ℕ) where
  comes_number : (x y : Placing) → Stands place x → Stands place y → comes_before x y ≡ true → x.number ≤ y.number
  comes_number x y s t h = go (comes_cases x y h)
    where
      late : y.number < x.number → y.item.position ≤ x.item.position
      late l = let b = t.before x.number s.at l s.is_at in let a = s.after in omega arith

      go : (x.item.position < y.item.position) ⊎ ((x.item.position ≡ y.item.position) × (x.number ≤ y.number)) → x.number ≤ y.number
      go (inl l) = order (cases_order x.number y.number)
        where
          order : (x.number ≡ y.number) ⊎ ((x.number < y.number) ⊎ (y.number < x.number)) → x.number ≤ y.number
          order (inl m) = omega arith
          order (inr (inl m)) = omega arith
          order (inr (inr m)) = let k = late m in absurd (omega arith)
      go (inr e) = e.1

  comes_not_number : (x y : Placing) → Stands place x → Stands place y → comes_before x y ≡ false → y.number ≤ x.number
  comes_not_number x y s t h = go (comes_not_cases x y h)
    where
      late : x.number < y.number → x.item.position ≤ y.item.position
      late l = let b = s.before y.number t.at l t.is_at in let a = t.after in omega arith

      go : (y.item.position < x.item.position) ⊎ ((x.item.position ≡ y.item.position) × ((y.number < x.number) ⊎ ((x.number ≡ y.number) × (x.mode ≡ modes.ReadOnly)))) → y.number ≤ x.number
      go (inl l) = order (cases_order x.number y.number)
        where
          order : (x.number ≡ y.number) ⊎ ((x.number < y.number) ⊎ (y.number < x.number)) → y.number ≤ x.number
          order (inl m) = omega arith
          order (inr (inl m)) = let k = late m in absurd (omega arith)
          order (inr (inr m)) = omega arith
      go (inr e) = pick e.1
        where
          pick : (y.number < x.number) ⊎ ((x.number ≡ y.number) × (x.mode ≡ modes.ReadOnly)) → y.number ≤ x.number
          pick (inl l) = omega arith
          pick (inr l) = let n = l.0 in omega arith

  pub ordered_first : (o x : Placing) → IsOrdered place o → Stands place x → o.number ≤ x.number → comes_before o x ≡ true
  ordered_first o x s t l = go (comes_before o x) refl
    where
      same : o.number ≡ x.number → o.item.position ≤ x.item.position
      same e = let k : s.stands.at ≡ t.at = some_injective s.stands.at t.at (sym s.stands.is_at ∙ ap place e ∙ t.is_at) in let a = s.exact in let b = t.after in omega arith

      lower : o.number < x.number → o.item.position ≤ x.item.position
      lower m = let b = s.stands.before x.number t.at m t.is_at in let a = t.after in omega arith

      go : (b : Bool) → comes_before o x ≡ b → b ≡ true
      go true e = refl
      go false e = pick (comes_not_cases o x e)
        where
          pick : (x.item.position < o.item.position) ⊎ ((o.item.position ≡ x.item.position) × ((x.number < o.number) ⊎ ((o.number ≡ x.number) × (o.mode ≡ modes.ReadOnly)))) → false ≡ true
          pick (inl m) = order (cases_order o.number x.number)
            where
              order : (o.number ≡ x.number) ⊎ ((o.number < x.number) ⊎ (x.number < o.number)) → false ≡ true
              order (inl n) = let a = same n in absurd (omega arith)
              order (inr (inl n)) = let a = lower n in absurd (omega arith)
              order (inr (inr n)) = absurd (omega arith)
          pick (inr m) = last m.1
            where
              last : (x.number < o.number) ⊎ ((o.number ≡ x.number) × (o.mode ≡ modes.ReadOnly)) → false ≡ true
              last (inl n) = absurd (omega arith)
              last (inr n) = let bad : modes.Ordered ≡ modes.ReadOnly = sym s.mode_is ∙ n.1 in absurd cc

  ordered_not_first : (o x : Placing) → Stands place o → Stands place x → x.number < o.number → comes_before o x ≡ false
  ordered_not_first o x s t l = go (comes_before o x) refl
    where
      go : (b : Bool) → comes_before o x ≡ b → b ≡ false
      go false e = refl
      go true e = let n = comes_number o x s t e in absurd (omega arith)

-- ---- insertion

pub insert_all : (P : Placing → Type 0) (x : Placing) (ys : List Placing) → P x → AllOf P ys → AllOf P (insert_point x ys)
insert_all P x [] p a = (p, tt)
insert_all P x (y ∷ ys) p a = go (comes_before x y) (insert_all P x ys p a.1)
  where
    go : (b : Bool) → AllOf P (insert_point x ys) → AllOf P (cond b (x ∷ y ∷ ys) (y ∷ insert_point x ys))
    go true below = (p, a)
    go false below = (a.0, below)

pub sorted_all : (P : Placing → Type 0) (xs : List Placing) → AllOf P xs → AllOf P (sorted xs)
sorted_all P [] a = tt
sorted_all P (x ∷ xs) a = insert_all P x (sorted xs) a.0 (sorted_all P xs a.1)

abbrev pub Fits : (Placing → ℕ) → Placing → Placing → Type 0
Fits f x y = (comes_before x y ≡ true → f x ≤ f y) × (comes_before x y ≡ false → f y ≤ f x)

insert_ascends : (f : Placing → ℕ) (x : Placing) (ys : List Placing) → AllOf (Fits f x) ys → Ascends f ys → Ascends f (insert_point x ys)
insert_ascends f x [] fits a = (tt, tt)
insert_ascends f x (y ∷ ys) fits a = go (comes_before x y) refl (insert_ascends f x ys fits.1 a.1)
  where
    go : (b : Bool) → comes_before x y ≡ b → Ascends f (insert_point x ys) → Ascends f (cond b (x ∷ y ∷ ys) (y ∷ insert_point x ys))
    go true e below = let l = fits.0.0 e in ((l, all_weaker (λ z. f y ≤ f z) (λ z. f x ≤ f z) (λ z m. omega arith) ys a.0), a)
    go false e below = (insert_all (λ z. f y ≤ f z) x ys (fits.0.1 e) a.0, below)

pub sorted_ascends : (P : Placing → Type 0) (f : Placing → ℕ) → ((x y : Placing) → P x → P y → Fits f x y) → (xs : List Placing) → AllOf P xs → Ascends f (sorted xs)
sorted_ascends P f fits [] a = tt
sorted_ascends P f fits (x ∷ xs) a = insert_ascends f x (sorted xs) (all_weaker P (Fits f x) (λ y p. fits x y a.0 p) (sorted xs) (sorted_all P xs a.1)) (sorted_ascends P f fits xs a.1)

position_fits : (x y : Placing) → Fits (λ z. z.item.position) x y
position_fits x y = (λ h. one (comes_cases x y h), λ h. two (comes_not_cases x y h))
  where
    one : (x.item.position < y.item.position) ⊎ ((x.item.position ≡ y.item.position) × (x.number ≤ y.number)) → x.item.position ≤ y.item.position
    one (inl l) = omega arith
    one (inr e) = let k = e.0 in omega arith

    two : (y.item.position < x.item.position) ⊎ ((x.item.position ≡ y.item.position) × ((y.number < x.number) ⊎ ((x.number ≡ y.number) × (x.mode ≡ modes.ReadOnly)))) → y.item.position ≤ x.item.position
    two (inl l) = omega arith
    two (inr e) = let k = e.0 in omega arith

never_fall : (xs : List Placing) → Ascends (λ z. z.item.position) xs → NeverFall (map (λ (x : Placing). x.item) xs)
never_fall [] a = tt
never_fall (x ∷ []) a = tt
never_fall (x ∷ y ∷ xs) a = (a.0.0, never_fall (y ∷ xs) a.1)

-- the positions of the points never fall
pub sorted_never_fall : (xs : List Placing) → NeverFall (map (λ (x : Placing). x.item) (sorted xs))
sorted_never_fall xs = never_fall (sorted xs) (sorted_ascends (λ x. ⊤) (λ z. z.item.position) (λ x y p q. position_fits x y) xs (list_all xs))
  where
    list_all : (xs : List Placing) → AllOf (λ x. ⊤) xs
    list_all [] = tt
    list_all (x ∷ xs) = (tt, list_all xs)

-- ---- the reads put in

pub insert_each : List Placing → List Placing → List Placing
insert_each [] rs = rs
insert_each (o ∷ os) rs = insert_point o (insert_each os rs)

pub sorted_append : (os rs : List Placing) → sorted (os ++ rs) ≡ insert_each os (sorted rs)
unfolding insert_each
sorted_append [] rs = refl
sorted_append (o ∷ os) rs = ap (insert_point o) (sorted_append os rs)

each_all : (P : Placing → Type 0) (os rs : List Placing) → AllOf P os → AllOf P rs → AllOf P (insert_each os rs)
unfolding insert_each
each_all P [] rs a b = b
each_all P (o ∷ os) rs a b = insert_all P o (insert_each os rs) a.0 (each_all P os rs a.1 b)

pub insert_front : (o : Placing) (ys : List Placing) → AllOf (λ y. comes_before o y ≡ true) ys → insert_point o ys ≡ o ∷ ys
insert_front o [] a = refl
insert_front o (y ∷ ys) a = go (comes_before o y) a.0
  where
    go : (b : Bool) → b ≡ true → cond b (o ∷ y ∷ ys) (y ∷ insert_point o ys) ≡ o ∷ y ∷ ys
    go true e = refl
    go false e = absurd cc

each_behind : (os rs : List Placing) (x : Placing) → AllOf (λ o. comes_before o x ≡ false) os → insert_each os (x ∷ rs) ≡ x ∷ insert_each os rs
unfolding insert_each
each_behind [] rs x a = refl
each_behind (o ∷ os) rs x a = ap (insert_point o) (each_behind os rs x a.1) ∙ go (comes_before o x) a.0
  where
    go : (b : Bool) → b ≡ false → cond b (o ∷ x ∷ insert_each os rs) (x ∷ insert_point o (insert_each os rs)) ≡ x ∷ insert_point o (insert_each os rs)
    go false e = refl
    go true e = absurd cc

-- ---- legal

-- the tuples after the points of the numbers up to the given one
abbrev pub tuples_at : ℕ → Contents → List Placing → Contents
tuples_at r tuples [] = tuples
tuples_at r tuples (o ∷ os) = tuples_at r (cond (nat_le o.number r) (item_after tuples o.item) tuples) os

pub record IsReadAt (tuples : Contents) (item : Item) : Type 0 where
  pub is_read : is_read_only item.op ≡ true
  pub answer : item.answer ≡ item_outcome tuples item

abbrev items : List Placing → List Item
items xs = map (λ (x : Placing). x.item) xs

read_legal : (tuples : Contents) (item : Item) (rest : List Item) → IsReadAt tuples item → LegalFrom tuples rest → LegalFrom tuples (item ∷ rest)
read_legal tuples item rest r h = (r.answer, subst (λ t. LegalFrom t rest) (sym (read_same tuples (item.client - 256) item.op r.is_read)) h)

reads_legal : (tuples : Contents) (rs : List Placing) → AllOf (λ x. IsReadAt tuples x.item) rs → LegalFrom tuples (items rs)
reads_legal tuples [] a = tt
reads_legal tuples (x ∷ rs) a = read_legal tuples x.item (items rs) a.0 (reads_legal tuples rs a.1)

pub early : (r : ℕ) (tuples : Contents) (os : List Placing) → AllOf (λ o. r < o.number) os → tuples_at r tuples os ≡ tuples
early r tuples [] a = refl
early r tuples (o ∷ os) a = go (nat_le o.number r) refl (early r tuples os a.1)
  where
    go : (b : Bool) → nat_le o.number r ≡ b → tuples_at r tuples os ≡ tuples → tuples_at r (cond b (item_after tuples o.item) tuples) os ≡ tuples
    go true e below = let l : o.number ≤ r = leb-true o.number r e in let m = a.0 in absurd (omega arith)
    go false e below = below

abbrev pub IsRight : Contents → List Placing → Placing → Type 0
IsRight tuples os x = IsReadAt (tuples_at x.number tuples os) x.item

abbrev pub Changes : Placing → Type 0
Changes o = (tuples : Contents) → item_after tuples o.item ≡ tuples

module _ (place : ℕ → Option ℕ) (keep : Placing → Bool) where
  abbrev Below : List Placing → Type 0
  Below os = (rs : List Placing) (tuples : Contents) → AllOf (Stands place) rs → Ascends (λ x. x.number) rs → LegalFrom tuples (items os) → AllOf (IsRight tuples os) rs
      → LegalFrom tuples (items (insert_each (filter keep os) rs))

  kept_step : (o : Placing) (os rs : List Placing) (tuples : Contents) → IsOrdered place o → AllOf (IsOrdered place) os → AllOf (λ y. o.number ≤ y.number) os
      → AllOf (Stands place) rs → Ascends (λ x. x.number) rs → LegalFrom tuples (items (o ∷ os)) → AllOf (IsRight tuples (o ∷ os)) rs → Below os
      → LegalFrom tuples (items (insert_point o (insert_each (filter keep os) rs)))
  kept_step o os [] tuples io ios low stands asc legal right below =
      let all : AllOf (λ y. comes_before o y ≡ true) (insert_each (filter keep os) []) =
      each_all (λ y. comes_before o y ≡ true) (filter keep os) [] (all_filter (λ y. comes_before o y ≡ true) keep os
      (all_weaker (λ y. IsOrdered place y × (o.number ≤ y.number)) (λ y. comes_before o y ≡ true) (λ y t. ordered_first place o y io t.0.stands t.1) os (all_both (IsOrdered place) (λ y. o.number ≤ y.number) os ios low))) tt in
      subst (λ (t : List Placing). LegalFrom tuples (items t)) (sym (insert_front o (insert_each (filter keep os) []) all))
      (legal.0, below [] (item_after tuples o.item) tt tt legal.1 tt)
  kept_step o os (x ∷ rs) tuples io ios low stands asc legal right below = go (nat_le o.number x.number) refl (kept_step o os rs tuples io ios low stands.1 asc.1 legal right.1 below)
    where
      go : (b : Bool) → nat_le o.number x.number ≡ b → LegalFrom tuples (items (insert_point o (insert_each (filter keep os) rs))) → LegalFrom tuples (items (insert_point o (insert_each (filter keep os) (x ∷ rs))))
      go false e rest =
          let l : x.number < o.number = leb-false o.number x.number e in
          let later : AllOf (λ y. x.number < y.number) os = all_weaker (λ y. o.number ≤ y.number) (λ y. x.number < y.number) (λ y m. omega arith) os low in
          let none : AllOf (λ y. comes_before y x ≡ false) (filter keep os) = all_filter (λ y. comes_before y x ≡ false) keep os
          (all_weaker (λ y. IsOrdered place y × (x.number < y.number)) (λ y. comes_before y x ≡ false) (λ y t. ordered_not_first place y x t.0.stands stands.0 t.1) os (all_both (IsOrdered place) (λ y. x.number < y.number) os ios later)) in
          let first : IsReadAt tuples x.item = subst (λ t. IsReadAt t x.item) (early x.number tuples (o ∷ os) (l, later)) right.0 in
          let shape : insert_point o (insert_each (filter keep os) (x ∷ rs)) ≡ x ∷ insert_point o (insert_each (filter keep os) rs) =
          ap (insert_point o) (each_behind (filter keep os) rs x none) ∙ behind (comes_before o x) (ordered_not_first place o x io.stands stands.0 l) in
          subst (λ (t : List Placing). LegalFrom tuples (items t)) (sym shape) (read_legal tuples x.item (items (insert_point o (insert_each (filter keep os) rs))) first rest)
        where
          behind : (b : Bool) → b ≡ false → cond b (o ∷ x ∷ insert_each (filter keep os) rs) (x ∷ insert_point o (insert_each (filter keep os) rs)) ≡ x ∷ insert_point o (insert_each (filter keep os) rs)
          behind false e = refl
          behind true e = absurd cc
      go true e rest =
          let l : o.number ≤ x.number = leb-true o.number x.number e in
          let high : AllOf (λ y. o.number ≤ y.number) (x ∷ rs) = (l, all_weaker (λ y. x.number ≤ y.number) (λ y. o.number ≤ y.number) (λ y m. omega arith) rs asc.0) in
          let firsts : AllOf (λ y. comes_before o y ≡ true) (x ∷ rs) =
          all_weaker (λ y. Stands place y × (o.number ≤ y.number)) (λ y. comes_before o y ≡ true) (λ y t. ordered_first place o y io t.0 t.1) (x ∷ rs) (all_both (Stands place) (λ y. o.number ≤ y.number) (x ∷ rs) stands high) in
          let all : AllOf (λ y. comes_before o y ≡ true) (insert_each (filter keep os) (x ∷ rs)) =
          each_all (λ y. comes_before o y ≡ true) (filter keep os) (x ∷ rs) (all_filter (λ y. comes_before o y ≡ true) keep os
          (all_weaker (λ y. IsOrdered place y × (o.number ≤ y.number)) (λ y. comes_before o y ≡ true) (λ y t. ordered_first place o y io t.0.stands t.1) os (all_both (IsOrdered place) (λ y. o.number ≤ y.number) os ios low))) firsts in
          let after : item_after tuples o.item ≡ item_after tuples o.item = refl in
          let moved : AllOf (IsRight (item_after tuples o.item) os) (x ∷ rs) =
          all_weaker (λ y. IsRight tuples (o ∷ os) y × (o.number ≤ y.number)) (IsRight (item_after tuples o.item) os)
          (λ y t. subst (λ u. IsReadAt (tuples_at y.number u os) y.item) after (at y (nat_le o.number y.number) (le-leb o.number y.number t.1) t.0)) (x ∷ rs)
          (all_both (IsRight tuples (o ∷ os)) (λ y. o.number ≤ y.number) (x ∷ rs) right high) in
          subst (λ (t : List Placing). LegalFrom tuples (items t)) (sym (insert_front o (insert_each (filter keep os) (x ∷ rs)) all))
          (legal.0, below (x ∷ rs) (item_after tuples o.item) stands asc legal.1 moved)
        where
          at : (y : Placing) (b : Bool) → b ≡ true → IsReadAt (tuples_at y.number (cond b (item_after tuples o.item) tuples) os) y.item → IsReadAt (tuples_at y.number (item_after tuples o.item) os) y.item
          at y true e h = h
          at y false e h = absurd cc

  no_points : (rs : List Placing) → insert_each [] rs ≡ rs
  unfolding insert_each
  no_points rs = refl

  each_more : (o : Placing) (os rs : List Placing) → insert_each (o ∷ os) rs ≡ insert_point o (insert_each os rs)
  unfolding insert_each
  each_more o os rs = refl

  pub legal_with : (os : List Placing) → AllOf (IsOrdered place) os → Ascends (λ x. x.number) os → AllOf (λ o. keep o ≡ false → Changes o) os → Below os
  legal_with [] io asc drops rs tuples stands ascs legal right = subst (λ (t : List Placing). LegalFrom tuples (items t)) (sym (no_points rs)) (reads_legal tuples rs right)
  legal_with (o ∷ os) io asc drops rs tuples stands ascs legal right = go (keep o) refl (legal_with os io.1 asc.1 drops.1)
    where
      go : (b : Bool) → keep o ≡ b → Below os → LegalFrom tuples (items (insert_each (cond b (o ∷ filter keep os) (filter keep os)) rs))
      go true e below = subst (λ (t : List Placing). LegalFrom tuples (items t)) (sym (each_more o (filter keep os) rs)) (kept_step o os rs tuples io.0 io.1 asc.0 stands ascs legal right below)
      go false e below =
          let same : item_after tuples o.item ≡ tuples = drops.0 e tuples in
          let after : item_after tuples o.item ≡ item_after tuples o.item = refl in
          let rest : LegalFrom tuples (items os) = subst (λ t. LegalFrom t (items os)) (sym after ∙ same) legal.1 in
          below rs tuples stands ascs rest (all_weaker (IsRight tuples (o ∷ os)) (IsRight tuples os) (λ x h. either x same (nat_le o.number x.number) h) rs right)
        where
          either : (x : Placing) → item_after tuples o.item ≡ tuples → (b : Bool) → IsReadAt (tuples_at x.number (cond b (item_after tuples o.item) tuples) os) x.item → IsReadAt (tuples_at x.number tuples os) x.item
          either x same true h = subst (λ t. IsReadAt (tuples_at x.number t os) x.item) same h
          either x same false h = h

  -- the points in order are legal
  pub sorted_legal : (os rs : List Placing) (tuples : Contents) → AllOf (IsOrdered place) os → Ascends (λ x. x.number) os → AllOf (λ o. keep o ≡ false → Changes o) os
      → AllOf (Stands place) rs → LegalFrom tuples (items os) → AllOf (IsRight tuples os) rs → LegalFrom tuples (items (sorted (filter keep os ++ rs)))
  sorted_legal os rs tuples io asc drops stands legal right =
      subst (λ (t : List Placing). LegalFrom tuples (items t)) (sym (sorted_append (filter keep os) rs))
      (legal_with os io asc drops (sorted rs) tuples (sorted_all (Stands place) rs stands)
      (sorted_ascends (Stands place) (λ x. x.number) (λ x y s t. (comes_number place x y s t, comes_not_number place x y s t)) rs stands) legal (sorted_all (IsRight tuples os) rs right))

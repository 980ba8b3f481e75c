-- Laws of `Has` and `Each`: some element of a list, and each.
use Rattle.std.proofs.Common.{◌≡◌, ◌⊎◌, inl, inr, Bool, true, false, cond, List, [], ◌∷◌, ◌++◌, map, filter, reverse, refl, sym, ◌∙◌, subst, ◌||◌}
use Rattle.std.proofs.lemmas.Bool.{and_parts, and_from, or_left, or_right}
use Rattle.std.proofs.lemmas.List.{reverse-reverse}
use Rattle.std.specs.List.{list_all, list_any}
use mathlib.Core.List.{reverse_aux}
use Rattle.protocol.specs.System.Trace.{Has}
use Rattle.wire_format.specs.Lists.{Each}

-- ---- some element

pub has_weaker : {A : Type 0} (P Q : A → Type 0) → ((x : A) → P x → Q x) → (xs : List A) → Has P xs → Has Q xs
has_weaker P Q f [] h = absurd h
has_weaker P Q f (x ∷ xs) (inl h) = inl (f x h)
has_weaker P Q f (x ∷ xs) (inr h) = inr (has_weaker P Q f xs h)

pub has_some : {A : Type 0} (P : A → Type 0) (xs : List A) → Has P xs → (x : A) × Has (λ y. y ≡ x) xs × P x
has_some P [] h = absurd h
has_some P (x ∷ xs) (inl h) = (x, inl refl, h)
has_some P (x ∷ xs) (inr h) = let r = has_some P xs h in (r.0, inr r.1, r.2)

pub has_left : {A : Type 0} (P : A → Type 0) (xs ys : List A) → Has P xs → Has P (xs ++ ys)
has_left P [] ys h = absurd h
has_left P (x ∷ xs) ys (inl h) = inl h
has_left P (x ∷ xs) ys (inr h) = inr (has_left P xs ys h)

pub has_right : {A : Type 0} (P : A → Type 0) (xs ys : List A) → Has P ys → Has P (xs ++ ys)
has_right P [] ys h = h
has_right P (x ∷ xs) ys h = inr (has_right P xs ys h)

pub has_either : {A : Type 0} (P : A → Type 0) (xs ys : List A) → Has P (xs ++ ys) → Has P xs ⊎ Has P ys
has_either P [] ys h = inr h
has_either P (x ∷ xs) ys (inl h) = inl (inl h)
has_either P (x ∷ xs) ys (inr h) = go (has_either P xs ys h)
  where
    go : Has P xs ⊎ Has P ys → (P x ⊎ Has P xs) ⊎ Has P ys
    go (inl k) = inl (inr k)
    go (inr k) = inr k

has_reverse_aux : {A : Type 0} (P : A → Type 0) (xs ys : List A) → Has P (reverse_aux xs ys) → Has P xs ⊎ Has P ys
has_reverse_aux P [] ys h = inr h
has_reverse_aux P (x ∷ xs) ys h = go (has_reverse_aux P xs (x ∷ ys) h)
  where
    go : Has P xs ⊎ (P x ⊎ Has P ys) → (P x ⊎ Has P xs) ⊎ Has P ys
    go (inl k) = inl (inr k)
    go (inr (inl k)) = inl (inl k)
    go (inr (inr k)) = inr k

pub has_reverse : {A : Type 0} (P : A → Type 0) (xs : List A) → Has P (reverse xs) → Has P xs
has_reverse P xs h = go (has_reverse_aux P xs [] h)
  where
    go : Has P xs ⊎ ⊥ → Has P xs
    go (inl k) = k
    go (inr k) = absurd k

pub has_reversed : {A : Type 0} (P : A → Type 0) (xs : List A) → Has P xs → Has P (reverse xs)
has_reversed P xs h = has_reverse P (reverse xs) (subst (λ ys. Has P ys) (sym (reverse-reverse xs)) h)

pub has_filter : {A : Type 0} (P : A → Type 0) (test : A → Bool) (xs : List A) → Has P (filter test xs) → Has P xs
has_filter P test [] h = h
has_filter P test (x ∷ xs) h = go (test x) h (has_filter P test xs)
  where
    go : (b : Bool) → Has P (cond b (x ∷ filter test xs) (filter test xs)) → (Has P (filter test xs) → Has P xs) → P x ⊎ Has P xs
    go true (inl k) below = inl k
    go true (inr k) below = inr (below k)
    go false k below = inr (below k)

pub has_filtered : {A : Type 0} (P : A → Type 0) (test : A → Bool) → ((x : A) → P x → test x ≡ true) → (xs : List A) → Has P xs → Has P (filter test xs)
has_filtered P test f [] h = h
has_filtered P test f (x ∷ xs) h = go (test x) refl h (has_filtered P test f xs)
  where
    go : (b : Bool) → test x ≡ b → P x ⊎ Has P xs → (Has P xs → Has P (filter test xs)) → Has P (cond b (x ∷ filter test xs) (filter test xs))
    go true t (inl k) below = inl k
    go true t (inr k) below = inr (below k)
    go false t (inl k) below = absurd (let bad : false ≡ true = sym t ∙ f x k in cc)
    go false t (inr k) below = below k

pub has_map : {A B : Type 0} (P : B → Type 0) (f : A → B) (xs : List A) → Has P (map f xs) → Has (λ x. P (f x)) xs
has_map P f [] h = h
has_map P f (x ∷ xs) (inl h) = inl h
has_map P f (x ∷ xs) (inr h) = inr (has_map P f xs h)

pub has_mapped : {A B : Type 0} (P : B → Type 0) (f : A → B) (xs : List A) → Has (λ x. P (f x)) xs → Has P (map f xs)
has_mapped P f [] h = h
has_mapped P f (x ∷ xs) (inl h) = inl h
has_mapped P f (x ∷ xs) (inr h) = inr (has_mapped P f xs h)

-- ---- each element

pub each_has : {A : Type 0} (P : A → Type 0) (xs : List A) (x : A) → Each P xs → Has (λ y. y ≡ x) xs → P x
each_has P [] x e h = absurd h
each_has P (y ∷ ys) x e (inl h) = subst P h e.0
each_has P (y ∷ ys) x e (inr h) = each_has P ys x e.1 h

pub each_where : {A : Type 0} (P : A → Type 0) (xs : List A) → ((x : A) → Has (λ y. y ≡ x) xs → P x) → Each P xs
each_where P [] f = tt
each_where P (x ∷ xs) f = (f x (inl refl), each_where P xs (λ y h. f y (inr h)))

pub each_weaker : {A : Type 0} (P Q : A → Type 0) → ((x : A) → P x → Q x) → (xs : List A) → Each P xs → Each Q xs
each_weaker P Q f [] e = tt
each_weaker P Q f (x ∷ xs) e = (f x e.0, each_weaker P Q f xs e.1)

pub each_append : {A : Type 0} (P : A → Type 0) (xs ys : List A) → Each P xs → Each P ys → Each P (xs ++ ys)
each_append P [] ys h k = k
each_append P (x ∷ xs) ys h k = (h.0, each_append P xs ys h.1 k)

pub each_with : {A : Type 0} (P : A → Type 0) (xs : List A) (y : A) → Each P xs → P y → Each P (xs ++ y ∷ [])
each_with P [] y h p = (p, tt)
each_with P (x ∷ xs) y h p = (h.0, each_with P xs y h.1 p)

pub each_filtered : {A : Type 0} (P Q : A → Type 0) (test : A → Bool) → ((x : A) → test x ≡ true → P x → Q x) → (xs : List A) → Each P xs → Each Q (filter test xs)
each_filtered P Q test f [] e = tt
each_filtered P Q test f (x ∷ xs) e = go (test x) refl (each_filtered P Q test f xs e.1)
  where
    go : (b : Bool) → test x ≡ b → Each Q (filter test xs) → Each Q (cond b (x ∷ filter test xs) (filter test xs))
    go true t below = (f x t e.0, below)
    go false t below = below

pub each_turned : {A : Type 0} (P : A → Type 0) (xs ys : List A) → Each P xs → Each P ys → Each P (reverse_aux xs ys)
each_turned P [] ys e f = f
each_turned P (x ∷ xs) ys e f = each_turned P xs (x ∷ ys) e.1 (e.0, f)

pub each_mapped : {A B : Type 0} (P : B → Type 0) (f : A → B) (xs : List A) → Each (λ x. P (f x)) xs → Each P (map f xs)
each_mapped P f [] e = tt
each_mapped P f (x ∷ xs) e = (e.0, each_mapped P f xs e.1)

-- ---- by a test

pub every_has : {A : Type 0} (test : A → Bool) (xs : List A) (x : A) → list_all test xs ≡ true → Has (λ y. y ≡ x) xs → test x ≡ true
every_has test [] x e h = absurd h
every_has test (y ∷ ys) x e (inl h) = subst (λ z. test z ≡ true) h (and_parts (test y) (list_all test ys) e).0
every_has test (y ∷ ys) x e (inr h) = every_has test ys x (and_parts (test y) (list_all test ys) e).1 h

pub some_of_has : {A : Type 0} (test : A → Bool) (xs : List A) → list_any test xs ≡ true → (x : A) × Has (λ y. y ≡ x) xs × (test x ≡ true)
some_of_has test [] h = absurd cc
some_of_has test (x ∷ xs) h = go (test x) refl h (some_of_has test xs)
  where
    go : (b : Bool) → test x ≡ b → (b || list_any test xs) ≡ true
        → (list_any test xs ≡ true → (y : _) × Has (λ z. z ≡ y) xs × (test y ≡ true)) → (y : _) × Has (λ z. z ≡ y) (x ∷ xs) × (test y ≡ true)
    go true e k below = (x, inl refl, e)
    go false e k below = let r = below k in (r.0, inr r.1, r.2)

pub has_of_any : {A : Type 0} (P : A → Type 0) (test : A → Bool) → ((x : A) → test x ≡ true → P x) → (xs : List A) → list_any test xs ≡ true → Has P xs
has_of_any P test f [] h = absurd cc
has_of_any P test f (x ∷ xs) h = go (test x) refl h (has_of_any P test f xs)
  where
    go : (b : Bool) → test x ≡ b → (b || list_any test xs) ≡ true → (list_any test xs ≡ true → Has P xs) → P x ⊎ Has P xs
    go true e k below = inl (f x e)
    go false e k below = inr (below k)

pub any_of_has : {A : Type 0} (P : A → Type 0) (test : A → Bool) → ((x : A) → P x → test x ≡ true) → (xs : List A) → Has P xs → list_any test xs ≡ true
any_of_has P test f [] h = absurd h
any_of_has P test f (x ∷ xs) (inl h) = or_left (test x) (list_any test xs) (f x h)
any_of_has P test f (x ∷ xs) (inr h) = or_right (test x) (list_any test xs) (any_of_has P test f xs h)

pub all_where : {A : Type 0} (test : A → Bool) (xs : List A) → ((x : A) → Has (λ y. y ≡ x) xs → test x ≡ true) → list_all test xs ≡ true
all_where test [] f = refl
all_where test (x ∷ xs) f = and_from (test x) (list_all test xs) (f x (inl refl)) (all_where test xs (λ y has. f y (inr has)))

pub each_of_all : {A : Type 0} (P : A → Type 0) (test : A → Bool) → ((x : A) → test x ≡ true → P x) → (xs : List A) → list_all test xs ≡ true → Each P xs
each_of_all P test f [] h = tt
each_of_all P test f (x ∷ xs) h =
    let p = and_parts (test x) (list_all test xs) h in
    (f x p.0, each_of_all P test f xs p.1)

pub all_of_each : {A : Type 0} (P : A → Type 0) (test : A → Bool) → ((x : A) → P x → test x ≡ true) → (xs : List A) → Each P xs → list_all test xs ≡ true
all_of_each P test f [] h = refl
all_of_each P test f (x ∷ xs) h = and_from (test x) (list_all test xs) (f x h.0) (all_of_each P test f xs h.1)

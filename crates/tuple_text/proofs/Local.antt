-- The result of a reader depends on the bytes that it passes and on the byte that stops it, and on no others.
use Rattle.std.proofs.Common.{◌≡◌, ℕ, ◌==◌, Bool, true, false, cond, List, [], ◌∷◌, ◌++◌, refl, ap, sym, subst, ◌∙◌}
use Rattle.std.proofs.Common.{append_assoc}
use Rattle.tuple_text.specs.Reading.{Read, got, stop, Reading, ◌>>=◌, look}
use Rattle.tuple_text.specs.declared.reader.Stop.TheVariants.{BadByte}
use Rattle.tuple_text.specs.declared.reader.Stop.{Stop}

abbrev pub SameHead : List ℕ → List ℕ → Type 0
SameHead [] [] = Unit {0}
SameHead [] (b ∷ u) = ⊥
SameHead (a ∷ t) [] = ⊥
SameHead (a ∷ t) (b ∷ u) = a ≡ b

pub same_front : (w t u : List ℕ) → SameHead t u → SameHead (w ++ t) (w ++ u)
same_front [] t u h = h
same_front (a ∷ w) t u h = refl

abbrev pub left : {V : Type 0} → Read V → List ℕ
left (got v bs) = bs
left (stop s bs) = bs

-- the same with other bytes left
abbrev pub with_left : {V : Type 0} → Read V → List ℕ → Read V
with_left (got v bs) u = got v u
with_left (stop s bs) u = stop s u

-- r reads x from bs, and the same from each list that begins with the passed bytes and the byte after them
pub record LocalAs {V : Type 0} (r : Reading V) (bs : List ℕ) (x : Read V) : Type 0 where
  pub passed : List ℕ
  pub whole : bs ≡ passed ++ left x
  pub alike : (u : List ℕ) → SameHead (left x) u → r (passed ++ u) ≡ with_left x u

abbrev pub IsLocal : {V : Type 0} → Reading V → Type 0
IsLocal r = (bs : List ℕ) → LocalAs r bs (r bs)

pub local_got : {V : Type 0} → (v : V) → IsLocal (λ bs. got v bs)
local_got v bs = record { passed = []; whole = refl; alike = λ u h. refl }

pub local_stop : {V : Type 0} → (s : Stop) → IsLocal {V = V} (λ bs. stop s bs)
local_stop s bs = record { passed = []; whole = refl; alike = λ u h. refl }

local_then_as : {V W : Type 0} → (r : Reading V) (f : V → Reading W) (bs : List ℕ) (x : Read V) → LocalAs r bs x → ((v : V) → IsLocal (f v)) → LocalAs (λ c. r c >>= f) bs (x >>= f)
local_then_as r f bs (stop s rest) l k = record { passed = l.passed; whole = l.whole; alike = λ u h. ap (λ y. y >>= f) (l.alike u h) }
local_then_as r f bs (got v rest) l k =
    let m = k v rest in
    record {
      passed = l.passed ++ m.passed;
      whole = l.whole ∙ ap (λ t. l.passed ++ t) m.whole ∙ sym (append_assoc l.passed m.passed (left (f v rest)));
      alike = λ u h.
          let head : SameHead rest (m.passed ++ u) = subst (λ t. SameHead t (m.passed ++ u)) (sym m.whole) (same_front m.passed (left (f v rest)) u h) in
          ap (λ t. r t >>= f) (append_assoc l.passed m.passed u) ∙ ap (λ y. y >>= f) (l.alike (m.passed ++ u) head) ∙ m.alike u h;
    }

pub local_then : {V W : Type 0} → (r : Reading V) (f : V → Reading W) → IsLocal r → ((v : V) → IsLocal (f v)) → IsLocal (λ bs. r bs >>= f)
local_then r f l k bs = local_then_as r f bs (r bs) (l bs) k

pub local_if : {V : Type 0} → (b : Bool) (r s : Reading V) → IsLocal r → IsLocal s → IsLocal (λ bs. cond b (r bs) (s bs))
local_if true r s k l = k
local_if false r s k l = l

-- A reading that passes a byte and goes on.
pub local_pass : {V : Type 0} → (r f : Reading V) (b : ℕ) → ((u : List ℕ) → r (b ∷ u) ≡ f u) → (bs : List ℕ) → LocalAs f bs (f bs) → LocalAs r (b ∷ bs) (r (b ∷ bs))
local_pass r f b e bs m =
    subst (λ x. LocalAs r (b ∷ bs) x) (sym (e bs)) (record { passed = b ∷ m.passed; whole = ap (λ t. b ∷ t) m.whole; alike = λ u h. e (m.passed ++ u) ∙ m.alike u h })

-- A reader that looks at the first byte, and is f if it is b.
first_same : {V : Type 0} → (r f : Reading V) (b : ℕ) → ((u : List ℕ) → r (b ∷ u) ≡ f (b ∷ u)) → (bs passed rest u : List ℕ) → b ∷ bs ≡ passed ++ rest → SameHead rest u → r (passed ++ u) ≡ f (passed ++ u)
first_same r f b e bs [] [] u p h = absurd (let g : ⊥ = cc in g)
first_same r f b e bs [] (c ∷ rest) [] p h = absurd h
first_same r f b e bs [] (c ∷ rest) (d ∷ u) p h =
    let same : b ≡ d = cc in
    subst (λ x. r (x ∷ u) ≡ f (x ∷ u)) same (e u)
first_same r f b e bs (c ∷ passed) rest u p h =
    let same : b ≡ c = cc in
    subst (λ x. r (x ∷ passed ++ u) ≡ f (x ∷ passed ++ u)) same (e (passed ++ u))

look_as : {V : Type 0} → (r f : Reading V) (b : ℕ) (bs : List ℕ) (x : Read V) → ((u : List ℕ) → r (b ∷ u) ≡ f (b ∷ u)) → LocalAs f (b ∷ bs) x → LocalAs r (b ∷ bs) x
look_as r f b bs x e l = record { passed = l.passed; whole = l.whole; alike = λ u h. first_same r f b e bs l.passed (left x) u l.whole h ∙ l.alike u h }

pub local_look : {V : Type 0} → (r f : Reading V) (b : ℕ) → ((u : List ℕ) → r (b ∷ u) ≡ f (b ∷ u)) → IsLocal f → (bs : List ℕ) → LocalAs r (b ∷ bs) (r (b ∷ bs))
local_look r f b e l bs = look_as r f b bs (r (b ∷ bs)) e (subst (λ x. LocalAs f (b ∷ bs) x) (sym (e bs)) (l (b ∷ bs)))

with_own : {V : Type 0} → (x : Read V) → x ≡ with_left x (left x)
with_own (got v bs) = refl
with_own (stop s bs) = refl

empty_alike : {V : Type 0} → (r : Reading V) (u : List ℕ) → left (r []) ≡ [] → SameHead [] u → r u ≡ with_left (r []) u
empty_alike r [] e h = with_own (r []) ∙ ap (with_left (r [])) e
empty_alike r (b ∷ u) e h = absurd h

pub local_empty : {V : Type 0} → (r : Reading V) → left (r []) ≡ [] → LocalAs r [] (r [])
local_empty r e = record { passed = []; whole = sym e; alike = λ u h. empty_alike r u e (subst (λ t. SameHead t u) e h) }

-- A test of the first byte: past it and on with f, or on with g before it.
pub local_test : {V : Type 0} → (t : Bool) (r f g : Reading V) (b : ℕ) → ((u : List ℕ) → r (b ∷ u) ≡ cond t (f u) (g (b ∷ u))) → (bs : List ℕ) → LocalAs f bs (f bs) → IsLocal g
    → LocalAs r (b ∷ bs) (r (b ∷ bs))
local_test true r f g b e bs m l = local_pass r f b e bs m
local_test false r f g b e bs m l = local_look r g b e l bs

abbrev pub passing : {V : Type 0} → Reading V → Reading V
passing f [] = stop BadByte []
passing f (b ∷ bs) = f bs

pub local_passing : {V : Type 0} → (f : Reading V) → IsLocal f → IsLocal (passing f)
local_passing f l [] = local_empty (passing f) refl
local_passing f l (b ∷ bs) = local_pass (passing f) f b (λ u. refl) bs (l bs)

pub local_choice : {V : Type 0} → (c : ℕ) (f g : Reading V) → IsLocal f → IsLocal g → IsLocal (look c f g)
local_choice c f g l m [] = local_empty (look c f g) refl
local_choice c f g l m (b ∷ bs) = local_look (look c f g) (λ u. cond (b == c) (f u) (g u)) b (λ u. refl) (local_if (b == c) f g l m) bs

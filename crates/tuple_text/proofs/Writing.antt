-- The written text is a text of its value, and the old bytes stay.
use Rattle.std.proofs.Common.{◌≡◌, ℕ, zero, suc, ◌+◌, ◌≤◌, ◌<◌, ◌==◌, nat_lt, Bool, true, false, ◌||◌, if◌then◌else◌}
use Rattle.std.proofs.Common.{List, [], ◌∷◌, ◌++◌, length, take, drop, get_or, Result, Ok, Err, refl, ap, sym, subst}
use Rattle.std.proofs.Common.{◌∙◌, append_assoc, append-nil, add-one, arith}
use Rattle.std.specs.List.{flat_map}
use Rattle.std.proofs.lemmas.Bool.{eqb-true}
use Rattle.std.proofs.lemmas.Grind.{flat_map-append}
use Rattle.std.proofs.lemmas.List.{take_at, take-append-drop}
use Rattle.std.proofs.Math.Seq.{drop-cons, drop-nil, get_or-take}
use Rattle.tuple_tree.specs.Items.{TreeItem, leaf, inner, Items, none, item}
use Rattle.tuple_text.specs.Texts.{ItemText, ItemsText, MoreText, escaped, hex_pair}
use Rattle.tuple_tree.specs.Values.{TupleTree}
use Rattle.tuple_text.specs.Written.{item_written, items_written, more_written, tuple_written, tuples_written}
use Rattle.tuple_text.specs.Written.{is_escaped, WritesText}

module _ {L : Type 0} (leaf_text : L → List ℕ) where
  mutual
    pub item_is_text : (x : TreeItem L) → ItemText leaf_text x (item_written leaf_text x)
    item_is_text (leaf x) = refl
    item_is_text (inner xs) = (items_written leaf_text xs, refl, items_are_text xs)

    pub items_are_text : (xs : Items L) → ItemsText leaf_text xs (items_written leaf_text xs)
    items_are_text none = tt
    items_are_text (item x xs) =
        ([], item_written leaf_text x, more_written leaf_text xs, refl, tt, item_is_text x, more_is_text xs)

    pub more_is_text : (xs : Items L) → MoreText leaf_text xs (more_written leaf_text xs)
    more_is_text none = tt
    more_is_text (item x xs) =
        (32 ∷ [], item_written leaf_text x, more_written leaf_text xs, cc, (omega arith, (refl, tt)), item_is_text x, more_is_text xs)

-- The text written after the old bytes, and the rest of the whole.
pub record SoFar (old new left whole : List ℕ) : Type 0 where
  pub done : List ℕ
  pub at : new ≡ old ++ done
  pub is : done ++ left ≡ whole

pub so_far : (old text left new : List ℕ) → new ≡ old ++ text → SoFar old new left (text ++ left)
so_far old text left new e = record { done = text; at = e; is = refl }

pub one_more : (old mid left text next whole new : List ℕ) → SoFar old mid left whole → left ≡ text ++ next → new ≡ mid ++ text → SoFar old new next whole
one_more old mid left text next whole new s p e = record {
  done = s.done ++ text;
  at = e ∙ ap (λ t. t ++ text) s.at ∙ append_assoc old s.done text;
  is = append_assoc s.done text next ∙ ap (λ t. s.done ++ t) (sym p) ∙ s.is;
}

-- all is written
pub nothing_left : (old new left whole : List ℕ) → SoFar old new left whole → left ≡ [] → new ≡ old ++ whole
nothing_left old new left whole s p = s.at ∙ ap (λ t. old ++ t) (sym (append-nil s.done) ∙ ap (λ t. s.done ++ t) (sym p) ∙ s.is)

-- an error after the text in front
pub error_second : (old front mid new : List ℕ) → mid ≡ old ++ front → (more : List ℕ) × (new ≡ mid ++ more) → (more : List ℕ) × (new ≡ old ++ more)
error_second old front mid new e h = (front ++ h.0, h.1 ∙ ap (λ t. t ++ h.0) e ∙ append_assoc old front h.0)

pub error_behind : (old mid left whole new : List ℕ) → SoFar old mid left whole → (more : List ℕ) × (new ≡ mid ++ more) → (more : List ℕ) × (new ≡ old ++ more)
error_behind old mid left whole new s h = error_second old s.done mid new s.at h

-- The last part is written, or an error comes in it.
pub last_part : {V E : Type 0} → (r : Result V E) (old mid left text whole new : List ℕ) → SoFar old mid left whole → left ≡ text → WritesText r mid text new → WritesText r old whole new
last_part (Ok v) old mid left text whole new s p e = nothing_left old new [] whole (one_more old mid left text [] whole new s (p ∙ sym (append-nil text)) e) refl
last_part (Err f) old mid left text whole new s p h = error_behind old mid left whole new s h

-- two parts
pub second_part : {V E : Type 0} → (r : Result V E) (old mid front text new : List ℕ) → mid ≡ old ++ front → WritesText r mid text new → WritesText r old (front ++ text) new
second_part r old mid front text new e h = last_part r old mid text text (front ++ text) new (so_far old front text mid e) refl h

-- The old bytes stand at the front of those that an error leaves.
pub kept : (old new : List ℕ) (n : ℕ) → n ≡ length old → (more : List ℕ) × (new ≡ old ++ more) → take n new ≡ old
kept old new n e h = ap (take n) h.1 ∙ take_at old h.0 n (sym e)

-- the first item of a list's rest, and the end
drop_first : {A : Type 0} → (xs : List A) (i : ℕ) (d : A) → i < length xs → drop i xs ≡ get_or xs i d ∷ drop (i + 1) xs
drop_first xs i d h = drop-cons xs i d h ∙ ap (λ k. get_or xs i d ∷ drop k xs) (sym (add-one i))

pub drop_all : {A : Type 0} → (xs : List A) (i : ℕ) → length xs ≤ i → drop i xs ≡ []
drop_all [] zero h = refl
drop_all [] (suc i) h = refl
drop_all (x ∷ xs) zero h = absurd (omega arith)
drop_all (x ∷ xs) (suc i) h = drop_all xs i (omega arith)

pub flat_map_first : (f : ℕ → List ℕ) (xs : List ℕ) (i : ℕ) → i < length xs → flat_map f (drop i xs) ≡ f (get_or xs i 0) ++ flat_map f (drop (i + 1) xs)
flat_map_first f xs i h = ap (flat_map f) (drop_first xs i 0 h)

pub tuples_first : (ts : List TupleTree) (i : ℕ) (t : TupleTree) → i < length ts → t ≡ get_or ts i t → tuples_written (drop i ts) ≡ 32 ∷ tuple_written t ++ tuples_written (drop (i + 1) ts)
tuples_first ts i t h e = ap tuples_written (drop_first ts i t h) ∙ ap (λ x. 32 ∷ tuple_written x ++ tuples_written (drop (i + 1) ts)) (sym e)

-- a byte of a text that stands for itself
plain_by : (quote slash control feed : Bool) (b : ℕ) → (control || (quote || slash)) ≡ false → (feed ≡ true → control ≡ true)
    → (if quote then 92 ∷ 34 ∷ [] else (if slash then 92 ∷ 92 ∷ [] else (if feed then 92 ∷ 110 ∷ [] else (if control then 92 ∷ 120 ∷ hex_pair b else b ∷ [])))) ≡ b ∷ []
plain_by false false false false b h k = refl
plain_by false false false true b h k = absurd (cc (k refl))
plain_by quote slash true feed b h k = absurd (cc)
plain_by true slash false feed b h k = absurd (cc)
plain_by false true false feed b h k = absurd (cc)

feed_is_control : (b : ℕ) → (b == 10) ≡ true → nat_lt b 32 ≡ true
feed_is_control b h = subst (λ x. nat_lt x 32 ≡ true) (sym (eqb-true b 10 h)) refl

plain_byte : (b : ℕ) → is_escaped b ≡ false → escaped b ≡ b ∷ []
plain_byte b h = plain_by (b == 34) (b == 92) (nat_lt b 32) (b == 10) b h (feed_is_control b)

-- Bytes that stand for themselves are written as they are.
pub plain_run : (xs : List ℕ) (n : ℕ) → n ≤ length xs → ((k : ℕ) → k < n → is_escaped (get_or xs k 0) ≡ false) → flat_map escaped (take n xs) ≡ take n xs
plain_run xs zero h p = refl
plain_run [] (suc n) h p = absurd (omega arith)
plain_run (x ∷ xs) (suc n) h p =
    ap (λ t. t ++ flat_map escaped (take n xs)) (plain_byte x (p 0 (omega arith)))
    ∙ ap (λ t. x ∷ t) (plain_run xs n (omega arith) (λ k q. p (suc k) (omega arith)))

drop_drop : (n i : ℕ) (xs : List ℕ) → drop n (drop i xs) ≡ drop (i + n) xs
drop_drop n zero xs = let e : n ≡ 0 + n = omega arith in ap (λ (k : ℕ). drop k xs) e
drop_drop n (suc i) [] = drop-nil n ∙ sym (drop-nil (suc i + n))
drop_drop n (suc i) (x ∷ xs) = let e : suc (i + n) ≡ suc i + n = omega arith in drop_drop n i xs ∙ ap (λ (k : ℕ). drop k (x ∷ xs)) e

-- the rest of a text, by some of its front
pub flat_map_some : (f : ℕ → List ℕ) (xs : List ℕ) (i n : ℕ) → flat_map f (drop i xs) ≡ flat_map f (take n (drop i xs)) ++ flat_map f (drop (i + n) xs)
flat_map_some f xs i n =
    ap (flat_map f) (sym (take-append-drop n (drop i xs))) ∙ flat_map-append f (take n (drop i xs)) (drop n (drop i xs))
    ∙ ap (λ t. flat_map f (take n (drop i xs)) ++ flat_map f t) (drop_drop n i xs)

-- some more of a text
pub some_more : (f : ℕ → List ℕ) (xs tail : List ℕ) (i n : ℕ) → flat_map f (drop i xs) ++ tail ≡ flat_map f (take n (drop i xs)) ++ (flat_map f (drop (i + n) xs) ++ tail)
some_more f xs tail i n =
    ap (λ t. t ++ tail) (flat_map_some f xs i n) ∙ append_assoc (flat_map f (take n (drop i xs))) (flat_map f (drop (i + n) xs)) tail

-- ---- a test that fails along the front of a list

pub further : (test : ℕ → Bool) (xs : List ℕ) (n m : ℕ) → ((k : ℕ) → k < n → test (get_or xs k 0) ≡ false)
    → ((k : ℕ) → k < m → test (get_or (drop n xs) k 0) ≡ false) → (k : ℕ) → k < n + m → test (get_or xs k 0) ≡ false
further test xs zero m p q k h = q k (omega arith)
further test [] (suc n) m p q k h = p 0 (omega arith)
further test (x ∷ xs) (suc n) m p q zero h = p 0 (omega arith)
further test (x ∷ xs) (suc n) m p q (suc k) h = further test xs n m (λ j l. p (suc j) (omega arith)) q k (omega arith)

pub in_front : (test : ℕ → Bool) (xs ys : List ℕ) (n : ℕ) → ys ≡ take n xs → length ys ≡ n → ((k : ℕ) → k < length ys → test (get_or ys k 0) ≡ false)
    → (k : ℕ) → k < n → test (get_or xs k 0) ≡ false
in_front test xs ys n e l p k h = subst (λ b. test b ≡ false) (ap (λ zs. get_or zs k 0) e ∙ get_or-take n xs k 0 h) (p k (omega (arith, l)))

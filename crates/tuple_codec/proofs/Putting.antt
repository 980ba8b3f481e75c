-- Texts that are appended one after another.
use Rattle.std.proofs.Common.{◌≡◌, ℕ, ◌+◌, ◌<◌, ◌≤◌, List, ◌++◌, length, take, drop, get_or, Result, Ok, Err, ap, sym}
use Rattle.std.proofs.Common.{refl, ◌∙◌, arith, append_assoc, append-nil}
use Rattle.std.proofs.lemmas.List.{take_at, take-take, take-append-le, length-take, at_drop_more, at_drop_all}
use Rattle.tuple_tree.specs.Values.{TupleTree}
use Rattle.tuple_tree.specs.Puts.{PutsText}
use Rattle.tuple_tree.specs.Spelling.{tuple_spelling}
use Rattle.tuple_codec.specs.Spelling.{tuples_spelling}

-- The old bytes still stand at the front.
pub grown : (old new y : List ℕ) → new ≡ old ++ y → take (length old) new ≡ old
grown old new y e = ap (take (length old)) e ∙ take_at old y (length old) refl

pub kept_on : (a b c : List ℕ) → take (length a) b ≡ a → take (length b) c ≡ b → take (length a) c ≡ a
kept_on a b c h k =
    let l : length a ≤ length b = omega (arith, ap length h, length-take (length a) b) in
    sym (take-take (length a) (length b) c l) ∙ ap (take (length a)) k ∙ h

pub kept_grown : (a b c y : List ℕ) → take (length a) b ≡ a → c ≡ b ++ y → take (length a) c ≡ a
kept_grown a b c y h e =
    let l : length a ≤ length b = omega (arith, ap length h, length-take (length a) b) in
    ap (take (length a)) e ∙ take-append-le (length a) b y l ∙ h

-- A text, and then another one.
pub then : {U E : Type 0} (x y a b c : List ℕ) (r : Result U E) → b ≡ a ++ x → PutsText y b c r → PutsText (x ++ y) a c r
then x y a b c (Ok u) e h = h ∙ ap (λ s. s ++ y) e ∙ append_assoc a x y
then x y a b c (Err f) e h = kept_on a b c (grown a b x e) h

-- A list of tuples, from one to the next, and at its end.
pub tuple_put : (ts : List TupleTree) (i : ℕ) (t : TupleTree) (old new text : List ℕ) → i < length ts → t ≡ get_or ts i t → old ++ tuples_spelling (drop i ts) ≡ text → new ≡ old ++ tuple_spelling t
    → new ++ tuples_spelling (drop (i + 1) ts) ≡ text
tuple_put ts i t old new text p e h f =
    ap (λ s. s ++ tuples_spelling (drop (i + 1) ts)) f ∙ append_assoc old (tuple_spelling t) (tuples_spelling (drop (i + 1) ts))
    ∙ sym (ap (λ s. old ++ s) (at_drop_more tuples_spelling ts i t p ∙ ap (λ u. tuple_spelling u ++ tuples_spelling (drop (i + 1) ts)) (sym e))) ∙ h

pub tuples_put : (ts : List TupleTree) (i : ℕ) (new text : List ℕ) → length ts ≤ i → new ++ tuples_spelling (drop i ts) ≡ text → new ≡ text
tuples_put ts i new text p h = sym (append-nil new) ∙ sym (at_drop_all (λ us. new ++ tuples_spelling us) ts i p) ∙ h

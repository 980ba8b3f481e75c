-- Lists turned round: contracts see the newest entry first, and the program keeps the oldest first.
use Rattle.std.proofs.Common.{◌≡◌, ◌↔◌, Bool, true, false, cond, List, [], ◌∷◌, ◌++◌, length, filter, IsTrue, refl, ap, sym, ◌∙◌, append_assoc}
use Rattle.std.specs.Prelude.{reverse}
use Rattle.std.proofs.lemmas.List.{append-nil, reverse-append, reverse-reverse, length-reverse}
use Rattle.std.proofs.lemmas.List.Elements.{filter-append}
use Rattle.std.proofs.lemmas.Grind.{reverse_onto}
use Rattle.protocol.specs.System.Trace.{Entry}
use Rattle.events.specs.Outputs.{after_entries}

pub reverse_first : {A : Type 0} (xs : List A) (x : A) → reverse (x ∷ xs) ≡ reverse xs ++ x ∷ []
reverse_first xs x = reverse_onto xs x []

pub turned_length : (xs : List Entry) → length (reverse xs) ≡ length xs
turned_length xs = length-reverse xs

pub behind_is : (es past : List Entry) → after_entries es past ≡ reverse es ++ past
behind_is [] past = refl
behind_is (e ∷ es) past =
    behind_is es (e ∷ past) ∙ (sym (append_assoc (reverse es) (e ∷ []) past) ∙ ap (λ (xs : List Entry). xs ++ past) (sym (reverse_first es e)))

-- the reverse of a longer list
pub turned_longer : (xs es : List Entry) → reverse (xs ++ es) ≡ after_entries es (reverse xs)
turned_longer xs es = reverse-append xs es ∙ sym (behind_is es (reverse xs))

pub filter_turned : (test : Entry → Bool) (xs : List Entry) → filter test (reverse xs) ≡ reverse (filter test xs)
filter_turned test [] = refl
filter_turned test (x ∷ xs) =
    ap (filter test) (reverse_first xs x)
    ∙ (filter-append test (reverse xs) (x ∷ [])
    ∙ (ap (λ (ys : List Entry). ys ++ filter test (x ∷ [])) (filter_turned test xs) ∙ last (test x) x (filter test xs)))
  where
    last : (b : Bool) (x : Entry) (ys : List Entry) → reverse ys ++ cond b (x ∷ []) [] ≡ reverse (cond b (x ∷ ys) ys)
    last true x ys = sym (reverse_first ys x)
    last false x ys = append-nil (reverse ys)

pub same_turned : (xs ys : List Entry) → reverse xs ≡ reverse ys → xs ≡ ys
same_turned xs ys e = sym (reverse-reverse xs) ∙ (ap reverse e ∙ reverse-reverse ys)

-- a filter on a list and on its reverse
pub filtered_turned : (test : Entry → Bool) (xs ys : List Entry) → filter test xs ≡ ys → filter test (reverse xs) ≡ reverse ys
filtered_turned test xs ys e = filter_turned test xs ∙ ap reverse e

pub filtered_back : (test : Entry → Bool) (xs ys : List Entry) → filter test (reverse xs) ≡ reverse ys → filter test xs ≡ ys
filtered_back test xs ys e = same_turned (filter test xs) ys (sym (filter_turned test xs) ∙ e)

pub both_turned : (b : Bool) (test : Entry → Bool) (xs ys : List Entry) → (IsTrue b ↔ (filter test xs ≡ ys)) → IsTrue b ↔ (filter test (reverse xs) ≡ reverse ys)
both_turned b test xs ys h = ((λ t. filtered_turned test xs ys (h.0 t)), (λ e. h.1 (filtered_back test xs ys e)))

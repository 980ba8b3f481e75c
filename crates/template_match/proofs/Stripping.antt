-- Bytes that begin with others, and the bytes after these.
use Rattle.std.proofs.Common.{◌≡◌, ℕ, ◌<◌, Bool, true, false, cond, List, [], ◌∷◌, ◌++◌, length, take, drop, Option}
use Rattle.std.proofs.Common.{Some, None, ap, sym, refl, ◌∙◌, arith, length-append}
use Rattle.std.proofs.lemmas.Bool.{eqb-true, eq-eqb}
use Rattle.std.proofs.lemmas.List.{take-append-drop, take_at}
use lib.Dec.{eqb}
use Rattle.tuple_tree.specs.Reading.{◌>>=◌}
use Rattle.template_match.specs.Walks.{strip}

pub none_unless : {X : Type 0} (o : Option X) → ((x : X) → o ≡ Some x → ⊥) → o ≡ None
none_unless None h = refl
none_unless (Some x) h = absurd (h x refl)

pub strip_whole : (xs rest : List ℕ) → strip xs (xs ++ rest) ≡ Some rest
strip_whole [] rest = refl
strip_whole (x ∷ xs) rest = let e = eq-eqb x x refl in rw e (strip_whole xs rest)

pub strip_found : (xs bs rest : List ℕ) → strip xs bs ≡ Some rest → bs ≡ xs ++ rest
strip_found [] bs rest e = let h : bs ≡ rest = cc in h
strip_found (x ∷ xs) [] rest e = absurd (let g : ⊥ = cc in g)
strip_found (x ∷ xs) (b ∷ bs) rest e =
    let cases : (t : Bool) → eqb x b ≡ t → cond t (strip xs bs) None ≡ Some rest → b ∷ bs ≡ x ∷ xs ++ rest = elim [
      | true ↦ λ q h. ap (λ n. n ∷ bs) (sym (eqb-true x b q)) ∙ ap (λ ys. x ∷ ys) (strip_found xs bs rest h)
      | false ↦ λ q h. absurd (let g : ⊥ = cc in g)
    ] in
    cases (eqb x b) refl e

pub strip_append : (xs ys bs : List ℕ) → strip (xs ++ ys) bs ≡ (strip xs bs >>= λ rest. strip ys rest)
strip_append [] ys bs = refl
strip_append (x ∷ xs) ys [] = refl
strip_append (x ∷ xs) ys (b ∷ bs) =
    let cases : (t : Bool) → cond t (strip (xs ++ ys) bs) None ≡ (cond t (strip xs bs) None >>= λ rest. strip ys rest) = elim [
      | true ↦ strip_append xs ys bs
      | false ↦ refl
    ] in
    cases (eqb x b)

-- the first bytes are compared at once
pub strip_short : (xs bs : List ℕ) → length bs < length xs → strip xs bs ≡ None
strip_short xs bs p =
    none_unless (strip xs bs) (λ rest e. let h = ap length (strip_found xs bs rest e) in absurd (omega (arith, h, length-append xs rest)))

pub strip_same : (xs bs : List ℕ) → take (length xs) bs ≡ xs → strip xs bs ≡ Some (drop (length xs) bs)
strip_same xs bs e =
    ap (strip xs) (sym (take-append-drop (length xs) bs) ∙ ap (λ ys. ys ++ drop (length xs) bs) e) ∙ strip_whole xs (drop (length xs) bs)

pub strip_differs : (xs bs : List ℕ) → (take (length xs) bs ≡ xs → ⊥) → strip xs bs ≡ None
strip_differs xs bs ne =
    none_unless (strip xs bs) (λ rest e. ne (ap (take (length xs)) (strip_found xs bs rest e) ∙ take_at xs rest (length xs) refl))

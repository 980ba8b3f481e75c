-- Tuples one after another: their copies, whether others are equal, and that each is within the limits.
use Rattle.std.proofs.Common.{◌≡◌, ◌↔◌, ℕ, ◌+◌, ◌<◌, ◌≤◌, List, [], ◌∷◌, ◌++◌, length, take, drop, get_or, nat_eq}
use Rattle.std.proofs.Common.{IsTrue, ap, sym, ◌∙◌, arith, length-drop}
use Rattle.std.proofs.lemmas.Bool.Decides.{nat_tests}
use Rattle.std.proofs.lemmas.Grind.{common_steps}
use Rattle.std.proofs.lemmas.List.{take_more}
use Rattle.std.proofs.lemmas.List.Elements.{All-head, All-tail}
use Rattle.std.specs.Prelude.{All}
use Rattle.tuple_tree.specs.Values.{TupleTree, IsTuple}
use Rattle.tuple_codec.specs.Operations.{AreTuples}

-- the copies before the loop's step, and one copy more
pub copied : (ts : List TupleTree) (i : ℕ) (t copy : TupleTree) (old new : List TupleTree) → i < length ts → t ≡ get_or ts i t → old ≡ take i ts → new ≡ old ++ copy ∷ [] → copy ≡ t → new ≡ take (i + 1) ts
copied ts i t copy old new p is so_far pushed same = pushed ∙ ap (λ us. us ++ copy ∷ []) so_far ∙ ap (λ u. take i ts ++ u ∷ []) (same ∙ is) ∙ sym (take_more ts i t p)

nothing_left : {A : Type 0} (n : ℕ) (xs : List A) → length xs ≤ n → drop n xs ≡ []
nothing_left n xs h = grind (arith, common_steps)

-- past the end of one list, both are equal exactly if nothing is left of the other
pub compared : {A : Type 0} (xs ys : List A) (i at : ℕ) (G : Type 0) → length xs ≤ i → at ≤ length ys → ((drop i xs ≡ drop at ys) ↔ G)
    → (IsTrue (nat_eq at (length ys)) → G) × (G → IsTrue (nat_eq at (length ys)))
compared xs ys i at G past within both =
    let none : drop i xs ≡ [] = nothing_left i xs past in (
      (λ t.
          let e : at ≡ length ys = grind (arith, nat_tests) in
          both.0 (none ∙ sym (nothing_left at ys (omega arith)))),
      (λ g.
          let e : [] ≡ drop at ys = sym none ∙ both.1 g in
          let l : length ys ≤ at = omega (arith, ap length e, length-drop at ys) in
          grind (arith, nat_tests)),
    )

pub AreTuples-from_All : (ts : List TupleTree) → All IsTuple ts → AreTuples ts
AreTuples-from_All [] h = tt
AreTuples-from_All (t ∷ ts) h = (All-head IsTuple t ts h, AreTuples-from_All ts (All-tail IsTuple t ts h))

-- The loop that compares a projection with a history.
use Rattle.std.proofs.Common.{◌≡◌, ◌↔◌, ◌≤◌, ℕ, List, [], length, drop, nat_eq, IsTrue, sym, ap, ◌∙◌, arith, length-drop}
use Rattle.std.proofs.lemmas.Bool.Decides.{nat_tests}
use Rattle.std.proofs.lemmas.List.{drop_all}

-- past the trace's end, the history is the projection exactly if all of it was met
pub ends : {A : Type 0} (F : List A → List A) → F [] ≡ [] → (trace history : List A) (i at : ℕ) (G : Type 0) → length trace ≤ i → at ≤ length history
    → ((F (drop i trace) ≡ drop at history) ↔ G) → (IsTrue (nat_eq at (length history)) → G) × (G → IsTrue (nat_eq at (length history)))
ends F empty trace history i at G past within both =
    let none : F (drop i trace) ≡ [] = ap F (drop_all i trace past) ∙ empty in (
      (λ t.
          let e : at ≡ length history = grind (arith, nat_tests) in
          both.0 (none ∙ sym (drop_all at history (omega arith)))),
      (λ g.
          let e : [] ≡ drop at history = sym none ∙ both.1 g in
          let l : length history ≤ at = omega (arith, ap length e, length-drop at history) in
          grind (arith, nat_tests)),
    )

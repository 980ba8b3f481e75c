use Rattle.std.proofs.Common.{◌≡◌, ℕ, zero, suc, List, ◌++◌, ◌∙◌, get_or, Some, refl, sym, subst, arith}
use Rattle.std.specs.Borrow.{Bor}
use Rattle.std.specs.Prelude.{slice_get}
use Rattle.std.proofs.lemmas.Option.{get_or_from_slice_get}
use Rattle.hash_lanes.specs.declared.midstate.Midstate.{Midstate}
use Rattle.hash_lanes.specs.Midstates.{IsAfter}
use Rattle.hash_lanes.proofs.four.take_each.Goals as goal

-- one lane of the four
moved : (state d before after : Midstate) (states : List Midstate) (i : ℕ) (text block e : Bor (List ℕ)) (blocks : List (Bor (List ℕ))) (m : List ℕ)
    → slice_get states i ≡ Some before → slice_get blocks i ≡ Some block → state ≡ get_or states i d → text ≡ get_or blocks i e
    → ((m : List ℕ) → IsAfter state m → IsAfter after (m ++ text.now)) → IsAfter before m → IsAfter after (m ++ block.now)
moved state d before after states i text block e blocks m is_before is_block is_state is_text moves so_far =
    let same = is_state ∙ get_or_from_slice_get states i before d is_before in
    let own = is_text ∙ get_or_from_slice_get blocks i block e is_block in
    subst (λ (b : Bor (List ℕ)). IsAfter after (m ++ b.now)) own (moves m (subst (λ (s : Midstate). IsAfter s m) (sym same) so_far))

pub returns : goal.returns
returns c zero before block m lt is_before is_block after =
    (c.take_next.result.0, refl, moved _ _ before c.take_next.result.0 c.args.states 0 _ block _ c.args.blocks m is_before is_block refl refl c.take_next.ensures.first after)
returns c (suc zero) before block m lt is_before is_block after =
    (c.take_next.result.1, refl, moved _ _ before c.take_next.result.1 c.args.states 1 _ block _ c.args.blocks m is_before is_block refl refl c.take_next.ensures.second after)
returns c (suc (suc zero)) before block m lt is_before is_block after =
    (c.take_next.result.2, refl, moved _ _ before c.take_next.result.2 c.args.states 2 _ block _ c.args.blocks m is_before is_block refl refl c.take_next.ensures.third after)
returns c (suc (suc (suc zero))) before block m lt is_before is_block after =
    (c.take_next.result.3, refl, moved _ _ before c.take_next.result.3 c.args.states 3 _ block _ c.args.blocks m is_before is_block refl refl c.take_next.ensures.fourth after)
returns c (suc (suc (suc (suc lane)))) before block m lt is_before is_block after = absurd (omega arith)

use Rattle.std.proofs.Common.{◌<◌, ◌≤◌, map, length, get_or, arith, sym, ap, ◌∙◌, subst}
use Rattle.std.specs.Prelude.{All}
use Rattle.terms.specs.Parties.{party_number}
use Rattle.schedule_world.specs.Pooled.{IsServed, IsFirstWaiting}
use Rattle.schedule_world.specs.PoolView.{frame_in_pool}
use Rattle.schedule_world.proofs.Serving.{next_served, all_served, is_next, none_first}
use Rattle.schedule_world.proofs.pool.Pool.next.Goals as goal

pub returns-in-Some-clause-next : goal.returns-in-Some-clause-next
returns-in-Some-clause-next c =
    let item = (c.in-Some.ensures {u = tt}).item in
    let within : c.loop-self.self-inside.first < length c.loop-self.self-inside.frames.items = omega arith in
    let e = c.deref.ensures.value ∙ ap (λ m. m.waiting.items) c.index.ensures in
    let next = is_next c.loop-self.self-inside.frames.items c.loop-self.self-inside.first c.index.result.now c.in-Some.party.now within
    (subst (λ xs. 0 < length xs) e item.3.0) (item.1 ∙ ap (λ xs. get_or xs 0 c.in-Some.party.now) e) c.loop-self.invariant.1 in
    subst (λ fs. IsFirstWaiting fs c.loop-self.self-inside.first (party_number c.in-Some.party.now)) (ap (λ v. map frame_in_pool v.items) c.loop-self.invariant.2 ∙ c.self.view_is) next

pub loop-self-preserved : goal.loop-self-preserved
loop-self-preserved c =
    let within : c.loop-self.self-inside.first < length c.loop-self.self-inside.frames.items = omega arith in
    let none = none_first c.deref.result.now (c.in_default.ensures {u = tt}).value in
    let e = c.deref.ensures.value ∙ ap (λ m. m.waiting.items) c.index.ensures in
    (omega arith, next_served c.loop-self.self-inside.frames.items c.loop-self.self-inside.first c.index.result.now within (sym e ∙ none) c.loop-self.invariant.1, c.loop-self.invariant.2)

pub returns-clause-next : goal.returns-clause-next
returns-clause-next c =
    let n : length c.loop-self.self-inside.frames.items ≤ c.loop-self.self-inside.first = omega arith in
    let here = all_served c.loop-self.self-inside.frames.items c.loop-self.self-inside.first n c.loop-self.invariant.1 in
    subst (All IsServed) (ap (λ v. map frame_in_pool v.items) c.loop-self.invariant.2 ∙ c.self.view_is) here

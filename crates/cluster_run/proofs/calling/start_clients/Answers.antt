use Rattle.std.proofs.Common.{rules, arith, ◌≡◌, ◌∙◌, ◌+◌, length, ap, sym}
use Rattle.std.specs.Prelude.{slice_get, Some}
use Rattle.std.proofs.lemmas.List.{length_push}
use Rattle.std.proofs.lemmas.Iterator.Adapters.{YieldsList-from_vec}
use Rattle.std.proofs.lemmas.Iterator.Consumers.{YieldsList-at, YieldsList-from_enumerate, YieldsList-turn}
use Rattle.cluster_run.specs.Threads.{StartsThread, promises_of}
use Rattle.cluster_run.proofs.Joining.{started_more}
use Rattle.cluster_run.proofs.Turns.{turn_at}
use Rattle.cluster_run.proofs.calling.start_clients.Goals as goal

pub loop-number-preserved : goal.loop-number-preserved
loop-number-preserved g c =
    let source = YieldsList-from_vec {s = c.into_iter.result} c.args.hands.items (cc) (cc) in
    let from = YieldsList-at c.enumerate-number-items.ensures.source source in
    let chain = YieldsList-at c.into_iter-number-iterator.ensures.into_iter_gives (YieldsList-from_enumerate from c.enumerate-number-items.ensures.count) in
    let t = YieldsList-turn chain c.loop-number.yielded _ c.loop-number.yielded_by _ c.next.new.self (c.in-Some.number, c.in-Some.ops) c.in-Some.is c.next.ensures.steps in
    let turn = turn_at 0 (length c.loop-number.yielded) c.args.hands.items (c.in-Some.number, c.in-Some.ops) t.0 t.1 in
    let old = promises_of c.loop-number.callers.threads.items in
    let new = promises_of c.start_client.new.callers.threads.items in
    let number : c.in_ok-number.number ≡ c.in-Some.number = search rules in
    let so_many : length c.loop-number.yielded ≡ length old = sym c.loop-number.invariant.1 in
    let at : c.in_ok-number.number ≡ length old = omega (arith, number, turn.0, so_many) in
    let starts : StartsThread old c.in_ok-number.number c.in-Some.ops new = search rules in
    let is : slice_get c.args.hands.items c.in_ok-number.number ≡ Some c.in-Some.ops = ap (slice_get c.args.hands.items) (at ∙ c.loop-number.invariant.1) ∙ turn.1 in
    let more = started_more c.args.hands.items c.in-Some.ops old new c.in_ok-number.number c.loop-number.invariant.0 starts at is in
    (more.0, more.1 ∙ (ap (λ k. k + 1) c.loop-number.invariant.1 ∙ sym (length_push c.loop-number.yielded (c.in-Some.number, c.in-Some.ops))))

use Rattle.std.proofs.Common.{rules, arith, ◌≡◌, ◌∙◌, ◌<◌, ◌%◌, map, length, refl, sym, subst}
use Rattle.std.specs.Prelude.{slice_get, slice_set, Some}
use Rattle.cluster_run.specs.Hands.{AreDealt}
use Rattle.cluster_run.proofs.Turns.{dealt_more, seconds_more, turn_at}
use Rattle.std.proofs.lemmas.List.{length-map}
use Rattle.std.proofs.lemmas.Iterator.Adapters.{YieldsList-from_vec}
use Rattle.std.proofs.lemmas.Iterator.Consumers.{YieldsList-at, YieldsList-from_enumerate, YieldsList-turn}
use Rattle.std.proofs.lemmas.Option.{slice_get_read}
use Rattle.cluster_run.proofs.dealing.deal.Goals as goal

pub loop-i-preserved : goal.loop-i-preserved
loop-i-preserved c =
    let source = YieldsList-from_vec {s = c.into_iter.result} c.args.ops.items (cc) (cc) in
    let from = YieldsList-at c.enumerate-i-items.ensures.source source in
    let chain = YieldsList-at c.into_iter-i-iterator.ensures.into_iter_gives (YieldsList-from_enumerate from c.enumerate-i-items.ensures.count) in
    let t = YieldsList-turn chain c.loop-i.yielded _ c.loop-i.yielded_by _ c.next.new.self (c.in-Some.i, c.in-Some.op) c.in-Some.is c.next.ensures.steps in
    let at : c.in-Some.i ≡ length c.loop-i.yielded = (turn_at 0 (length c.loop-i.yielded) c.args.ops.items (c.in-Some.i, c.in-Some.op) t.0 t.1).0 ∙ omega arith in
    let n = c.args.clients in
    let hands = c.loop-i.hands.items in
    let done = map (λ p. p.1) c.loop-i.yielded in
    let low : c.in-Some.i % n < length hands = search rules in
    let was : slice_get hands (c.in-Some.i % n) ≡ Some c.index_mut.result.now = slice_get_read hands _ _ c.index_mut.result.now refl low (search rules) in
    subst (λ xs. AreDealt xs n (slice_set hands (c.in-Some.i % n) c.push.new.self)) (sym (seconds_more c.loop-i.yielded c.in-Some.i c.in-Some.op))
    (dealt_more done n c.in-Some.i hands (slice_set hands (c.in-Some.i % n) c.push.new.self) c.index_mut.result.now c.push.new.self c.in-Some.op c.requires
    c.loop-i.invariant (at ∙ sym (length-map c.loop-i.yielded (λ p. p.1))) was (search rules) refl)

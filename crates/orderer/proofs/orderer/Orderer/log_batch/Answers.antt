use Rattle.std.proofs.Common.{rules, ◌≡◌, ap}
use Rattle.std.specs.Arc.{arc_value}
use Rattle.ordering.specs.Log.{LogData}
use Rattle.orderer.specs.State.{OrdererData}
use Rattle.orderer.specs.OrdererView.{orderer_data}
use Rattle.orderer.proofs.EnteringViews.{logs_batch}
use Rattle.orderer.proofs.Batches.{batch_logged}
use Rattle.std.proofs.Common.{◌<◌, ◌∷◌, ℕ, List, true, sym, subst}
use Rattle.ordering.specs.Log as logs
use Rattle.wire_format.specs.Lists.{Each}
use Rattle.wire_format.specs.Spelling.{IsBatch}
use Rattle.pq_sets.specs.PqSetsView.{IsAmongTexts}
use Rattle.orderer.proofs.orderer.Orderer.log_batch.Goals as goal

pub returns-clause-ok : goal.returns-clause-ok
returns-clause-ok c =
    let view : c.view-view.result.0 ≡ c.self.inside.log.view = search rules in
    let text : arc_value c.in_ok-noted.noted ≡ arc_value c.args.batch = search rules in
    logs_batch c.args.number.0 c.view-view.result.0 (arc_value c.args.batch) (arc_value c.in_ok-noted.noted) (orderer_data c.self.inside) c.args.self.now _ c.note_logged.new.self c.self.view_is view text
    c.in_ok-note_logged.ensures.prepared c.in_ok-note_logged.ensures.logged c.in_ok-note_logged.ensures.texts
    (ap (λ (l : LogData). let o : OrdererData = record (orderer_data c.self.inside) { log = l; pq_sets = c.note_logged.new.self } in o) c.put_batch.ensures)

pub invariant_of-self-2 : goal.invariant_of-self-2
invariant_of-self-2 c =
    let o : OrdererData = orderer_data c.self.inside in
    let text : arc_value c.in_ok-noted.noted ≡ arc_value c.args.batch = search rules in
    batch_logged o c.args.number.0 (arc_value c.args.batch) c.put_batch.new.self c.note_logged.new.self c.self.invariant c.keeps.ensures
    (subst (λ (x : OrdererData). logs.is_in_marks x.log c.args.number.0 ≡ true) (sym c.self.view_is) c.requires.within)
    c.requires.batch
    (subst (λ (x : OrdererData). x.assigned < c.args.number.0 → IsBatch 1 (arc_value c.args.batch)) (sym c.self.view_is) c.requires.some)
    c.put_batch.ensures
    (subst (λ (t : List ℕ). Each (IsAmongTexts (t ∷ o.pq_sets.texts)) c.note_logged.new.self.texts) text c.in_ok-note_logged.ensures.texts)

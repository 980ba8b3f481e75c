use Rattle.std.proofs.Common.{ℕ, List, refl, sym, ◌∙◌, subst}
use Rattle.std.specs.Arc.{arc_value}
use Rattle.wire_format.specs.Messages.{pre_prepare as PrePrepare}
use Rattle.wire_format.specs.Spelling.{pieces_spelling}
use Rattle.wire_format.specs.Views.{texts_of}
use Rattle.orderer.specs.OrdererView.{orderer_data}
use Rattle.orderer.specs.PqSets.{LogsBatch}
use Rattle.orderer.specs.Multicasting.{Multicasts}
use Rattle.orderer.proofs.Again.{says_batch}
use Rattle.orderer.proofs.orderer.Orderer.multicast_batch.Goals as goal
use Rattle.orderer.specs.State.{OrdererData}
use Rattle.orderer.proofs.orderer.Orderer.multicast_batch.Goals as goal

pub returns-clause-ok : goal.returns-clause-ok
returns-clause-ok c =
    let text = pieces_spelling (texts_of c.args.frames.now) in
    let arc = c.in_ok-batch.ensures.ok ∙ c.new.ensures ∙ c.in_ok-of.ensures.text in
    let read = c.text.ensures ∙ c.deref.ensures ∙ arc in
    says_batch c.args.number.0 text c.args.self.now (orderer_data c.self.inside) _ c.args.outputs.now.items c.multicast_pre_prepare.new.outputs.items c.keeps.ensures.own
    (subst (λ (x : List ℕ). Multicasts c.args.self.now (PrePrepare c.args.self.now.log.view c.args.number.0 x) c.args.outputs.now.items c.multicast_pre_prepare.new.outputs.items) read c.in_ok-multicast_pre_prepare.ensures.said)
    (subst (λ (m : OrdererData). LogsBatch c.args.number.0 text c.args.self.now m) (sym c.self.view_is)
    (subst (λ (t : List ℕ). LogsBatch c.args.number.0 t c.args.self.now c.log_batch.new.self) arc
    (subst (λ (o : OrdererData). LogsBatch c.args.number.0 (arc_value c.in_ok-batch.batch) o c.log_batch.new.self) c.in_ok-multicast_pre_prepare.ensures.same c.in_ok-log_batch.ensures.ok)))
    refl

use Rattle.std.proofs.Common.{IfOk, sym, subst}
use Rattle.wire_format.specs.Views.{message_data, new_view_data}
use Rattle.view_change.specs.Sets.{texts_of}
use Rattle.orderer.specs.PqSets.{MaySign}
use Rattle.orderer.specs.OrdererView.{orderer_data}
use Rattle.orderer.specs.State.{OrdererData}
use Rattle.orderer.proofs.EnteringViews.{signs_view}
use Rattle.orderer.proofs.orderer.Orderer.sign_new_view.Goals as goal

pub returns-clause-signs : goal.returns-clause-signs
returns-clause-signs c = rw (← c.self.view_is)
    (signs_view (orderer_data c.self.inside) c.sign.new.self c.args.selection.now.start.0 c.args.selection.now.root (texts_of c.args.selection.now.batches.items) (message_data c.new_view_message.result)
    (new_view_data c.in_ok-message.message) c.sign.result c.in_ok-message.ensures.made c.in_ok-message.ensures.said c.in_ok-message.ensures.right c.new_view_message.ensures.says
    (subst (λ (o : OrdererData). IfOk c.sign.result (MaySign (message_data c.new_view_message.result) o c.sign.new.self)) (sym c.self.view_is) c.sign.ensures.ok))

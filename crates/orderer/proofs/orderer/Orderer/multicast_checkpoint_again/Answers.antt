use Rattle.std.proofs.Common.{sym, ap, ◌∙◌, option_map}
use Rattle.std.proofs.lemmas.Result.{on_ok_weaker}
use Rattle.wire_format.specs.Views.{checkpoint_entry_data}
use Rattle.orderer.proofs.Again.{checkpoint_again, no_checkpoint_again}
use Rattle.orderer.proofs.orderer.Orderer.multicast_checkpoint_again.Goals as goal
use Rattle.orderer.specs.State.{OrdererData}
use Rattle.orderer.proofs.orderer.Orderer.multicast_checkpoint_again.Goals as goal

pub returns-in-None-clause-ok : goal.returns-in-None-clause-ok
returns-in-None-clause-ok c =
    no_checkpoint_again c.args.self.now c.args.outputs.now.items (ap (λ (o : OrdererData). o.last_checkpoint) (sym c.self.view_is) ∙ ap (option_map checkpoint_entry_data) c.in-None.is)

pub returns-in-Some-clause-ok : goal.returns-in-Some-clause-ok
returns-in-Some-clause-ok c =
    on_ok_weaker c.multicast_checkpoint_message.result
    (λ k. checkpoint_again (checkpoint_entry_data c.in-Some.entry) c.args.self.now c.multicast_checkpoint_message.new.self c.args.outputs.now.items c.multicast_checkpoint_message.new.outputs.items
    (ap (λ (o : OrdererData). o.last_checkpoint) (sym c.self.view_is) ∙ ap (option_map checkpoint_entry_data) c.in-Some.is) k c.multicast_checkpoint_message.ensures.same)
    c.multicast_checkpoint_message.ensures.said

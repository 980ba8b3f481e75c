use Rattle.std.proofs.Common.{sym, ◌∙◌, ap, subst, option_map}
use Rattle.wire_format.specs.Views.{checkpoint_entry_data}
use Rattle.replica.specs.State.{BothPartsData}
use Rattle.replica.specs.BothPartsView.{both_parts_data}
use Rattle.replica.specs.Checkpoints.{IsDueKept, MulticastsDueCheckpoint}
use Rattle.replica.proofs.DueCheckpoints.{entry_due, says_due_checkpoint}
use Rattle.replica.proofs.both_parts.BothParts.multicast_due_checkpoint.Goals as goal

pub returns-clause-ok : goal.returns-clause-ok
returns-clause-ok c =
    let entry = checkpoint_entry_data c.in-Some.entry in
    subst (λ (a : BothPartsData). MulticastsDueCheckpoint a c.args.outputs.now.items c.try_stabilize.new.self c.multicast_checkpoint.new.outputs.items) c.self.view_is
    (says_due_checkpoint (both_parts_data c.self.inside) c.multicast_checkpoint.new.self c.try_stabilize.new.self entry c.args.outputs.now.items c.multicast_checkpoint.new.outputs.items c.try_stabilize.result c.self.invariant
    (entry_due c.self.inside.desk entry (subst (λ (r : BothPartsData). IsDueKept r.desk) (sym c.self.view_is) c.requires.kept)
    (sym c.due_checkpoint.ensures ∙ ap (option_map checkpoint_entry_data) c.in-Some.is))
    c.in_ok-multicast_checkpoint.ensures.ok c.try_stabilize.ensures.settles c.keeps.ensures.log)

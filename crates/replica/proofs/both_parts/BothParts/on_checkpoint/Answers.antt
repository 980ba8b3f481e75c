use Rattle.std.proofs.Common.{List, [], true, false, subst}
use Rattle.wire_format.specs.Messages.{CheckpointEntryData as CheckpointEntry}
use Rattle.wire_format.specs.Views.{checkpoint_entry_data}
use Rattle.events.specs.declared.output.Output.{Output}
use Rattle.replica.specs.BothPartsView.{both_parts_data}
use Rattle.replica.specs.Checkpoints.{StartsTransferIfBehind, StabilizesMarks}
use Rattle.replica.proofs.CheckpointsCome.{checkpoint_dropped, checkpoint_settled, checkpoint_followed}
use Rattle.replica.proofs.both_parts.BothParts.on_checkpoint.Goals as goal

pub returns-then-not-take_checkpoint-clause-ok : goal.returns-then-not-take_checkpoint-clause-ok
returns-then-not-take_checkpoint-clause-ok c = rw (← c.self.view_is, c.requires.first)
    (checkpoint_dropped (both_parts_data c.self.inside) c.self.invariant c.args.sender c.args.message.now c.take_checkpoint.new.self c.if-not-take_checkpoint.ensures.takes)

pub returns-then-try_stabilize-clause-ok : goal.returns-then-try_stabilize-clause-ok
returns-then-try_stabilize-clause-ok c = rw (← c.self.view_is, c.requires.first)
    (checkpoint_settled (both_parts_data c.self.inside) c.self.invariant c.args.sender c.args.message.now c.take_checkpoint.new.self c.if-not-take_checkpoint.ensures.takes c.try_stabilize.new.self
    (subst (λ (e : CheckpointEntry). StabilizesMarks e (both_parts_data (record c.self.inside { orderer = c.take_checkpoint.new.self })) c.try_stabilize.new.self true) c.entry_in-entry.ensures c.if-try_stabilize.ensures.settles))

pub returns-clause-ok : goal.returns-clause-ok
returns-clause-ok c = rw (← c.self.view_is)
    (checkpoint_followed (both_parts_data c.self.inside) c.self.invariant c.args.sender c.args.message.now c.take_checkpoint.new.self c.if-not-take_checkpoint.ensures.takes
    c.try_stabilize.new.self c.start_transfer_if_behind.new.self c.start_transfer_if_behind.new.outputs.items
    (subst (λ (e : CheckpointEntry). StabilizesMarks e (both_parts_data (record c.self.inside { orderer = c.take_checkpoint.new.self })) c.try_stabilize.new.self false) c.entry_in-entry.ensures c.if-try_stabilize.ensures.settles)
    (subst (λ (e : CheckpointEntry). StartsTransferIfBehind e c.try_stabilize.new.self [] c.start_transfer_if_behind.new.self c.start_transfer_if_behind.new.outputs.items) c.entry_in-entry.ensures
    (subst (λ (outs : List Output). StartsTransferIfBehind (checkpoint_entry_data c.entry_in-entry.result) c.try_stabilize.new.self outs c.start_transfer_if_behind.new.self c.start_transfer_if_behind.new.outputs.items) c.requires.first c.in_ok-start_transfer_if_behind.ensures.ok)))

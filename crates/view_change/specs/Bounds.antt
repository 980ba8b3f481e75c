-- A part of the bounds of a view change. The contract of a private function uses it.
use Rattle.std.specs.Prelude.{Bool, ◌&&◌}
use Rattle.std.specs.List.{list_all}
use Rattle.protocol.specs.System.Configuration.{Configuration}
use Rattle.protocol.specs.Replica.Selection.{is_batch_entry_within, is_checkpoint_within}
use Rattle.wire_format.specs.Messages.{ViewChangeData}

-- the lists of the view change are within the bounds
abbrev pub are_lists_within : Configuration → ViewChangeData → Bool
are_lists_within c vc =
    list_all (is_batch_entry_within c vc) vc.prepared
    && list_all (is_batch_entry_within c vc) vc.pre_prepared
    && list_all (is_checkpoint_within c vc) vc.checkpoints

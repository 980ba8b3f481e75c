use Rattle.std.proofs.Common.{◌∙◌}
use Rattle.wire_format.specs.Views.{checkpoint_entry_data}
use Rattle.ordering.proofs.Placing.{says_entry}
use Rattle.ordering.proofs.checkpoints.Checkpoints.has.Goals as goal

pub returns : goal.returns
returns c = c.has_entry.ensures ∙ says_entry (checkpoint_entry_data c.args.entry.now) c.as_slice.result.now ∙ cc

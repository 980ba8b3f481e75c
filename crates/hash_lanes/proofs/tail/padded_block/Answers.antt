use Rattle.std.proofs.Common.{◌∙◌}
use Rattle.hash_lanes.proofs.Writing.{block_written}
use Rattle.hash_lanes.proofs.tail.padded_block.Goals as goal

pub returns : goal.returns
returns c = block_written c.args.text.now _ _ c.args.bits c.copy_from_slice.ensures.after (c.copy_from_slice-2.ensures.after ∙ c.to_be_bytes.ensures) c.requires

use Rattle.evidence.proofs.Refusing
use Rattle.evidence.proofs.refused.right_replicas_do_not_send.Goals as goal

pub returns : goal.returns
returns c = record { replies = Refusing.replies_after_execution; commits = Refusing.no_commit_after_change; prepares = Refusing.no_prepare_after_change; checkpoints = Refusing.no_early_checkpoint; multiples = Refusing.checkpoints_multiples; primaries = Refusing.no_prepare_by_primary; numbers_read = Refusing.reads_newest; reads = Refusing.reads_what_was_asked; view_changes = Refusing.no_change_while_active; fetches = Refusing.fetches_what_is_wanted; fetches_above = Refusing.fetches_above }

use Rattle.std.proofs.Common.{ℕ, ◌<◌, [], get_or}
use Rattle.wire_format.specs.Spelling.{IsDigest}
use Rattle.frame_endpoint.proofs.digests.note_digests.Given as goal

abbrev pub invariant-loop-digest : goal.invariant-loop-digest
invariant-loop-digest l = (i : ℕ) → i < l.digest-index → IsDigest (get_or l.digests i [])

use Rattle.std.proofs.Common.{◌≡◌, ◌*◌, length, take}
use Rattle.sha2.specs.Sha256.{digest_bytes}
use Rattle.hash_lanes.proofs.midstate.digest.Given as goal

abbrev pub invariant-each : goal.invariant-each
invariant-each l = record { long : length l.bytes ≡ 32; held : take (4 * l.i) l.bytes ≡ digest_bytes l.words l.i }

use Rattle.std.proofs.Common.{◌≡◌, ◌<◌, ◌≤◌, ℕ, [], length, get_or}
use Rattle.partition_tree.specs.Parts.{parts_held, part_digest}
use Rattle.partition_tree.proofs.parts.renew.Given as goal

abbrev pub invariant-loop-part : goal.invariant-loop-part
invariant-loop-part l = record {
  count : length l.digests ≡ 32;
  done : (j : ℕ) → j < l.part → get_or l.digests j [] ≡ part_digest (get_or (parts_held l.parts) j []);
  left : (j : ℕ) → l.part ≤ j → get_or l.digests j [] ≡ get_or l.initial.digests j [];
}

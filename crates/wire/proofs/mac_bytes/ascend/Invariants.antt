use Rattle.std.proofs.Common.{◌≡◌, ◌+◌, ◌*◌, ◌-◌, ◌≤◌, length}
use Rattle.wire_format.specs.Lists.{ascends}
use Rattle.wire.specs.Macs.{macs_in}
use Rattle.wire_format.specs.Spelling.{mac_before}
use Rattle.wire.proofs.mac_bytes.ascend.Given as goal

abbrev pub invariant-loop-i : goal.invariant-loop-i
invariant-loop-i l = record {
  whole : 34 * (l.count + 1 - l._i) ≤ length l.rest;
  same : ascends mac_before (macs_in (l.count + 1 - l._i) l.rest) ≡ ascends mac_before (macs_in l.count l.entries);
}

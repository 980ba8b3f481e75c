use Rattle.std.proofs.Common.{◌≡◌, take, length, map}
use Rattle.wire_format.specs.Views.{mac_data}
use Rattle.wire.proofs.mac_bytes.MacBytes.copied.Given as goal

abbrev pub invariant-loop-i : goal.invariant-loop-i
invariant-loop-i l = record { read : map mac_data l.macs.items ≡ take l.i l.self; number : length l.macs.items ≡ l.i }

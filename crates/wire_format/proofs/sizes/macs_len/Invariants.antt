use Rattle.std.proofs.Common.{◌≡◌, ◌<◌, ◌+◌, ◌-◌, ◌^◌, min, drop, map, length}
use Rattle.wire_format.specs.Lists.{each_spelling}
use Rattle.wire_format.specs.Messages.{macs}
use Rattle.wire_format.specs.Views.{mac_data}
use Rattle.wire_format.specs.Spelling.{mac_spelling, authenticator_spelling}
use Rattle.wire_format.proofs.sizes.macs_len.Given as goal

abbrev pub invariant-loop-mac : goal.invariant-loop-mac
invariant-loop-mac l = record {
  total : min (l.len + length (each_spelling mac_spelling (map mac_data (drop l.mac-index l.receivers)))) (2 ^ 64 - 1) ≡ min (length (authenticator_spelling (macs (map mac_data l.receivers)))) (2 ^ 64 - 1);
  fits : l.len < 2 ^ 64;
}

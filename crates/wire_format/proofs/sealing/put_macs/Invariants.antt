use Rattle.std.proofs.Common.{◌≡◌, ◌++◌, drop, take, map, vec_len}
use Rattle.wire_format.specs.Lists.{each_spelling}
use Rattle.wire_format.specs.Messages.{macs}
use Rattle.wire_format.specs.Views.{mac_data}
use Rattle.wire_format.specs.Spelling.{mac_spelling, authenticator_spelling}
use Rattle.wire_format.proofs.sealing.put_macs.Given as goal

abbrev pub invariant-loop-mac : goal.invariant-loop-mac
invariant-loop-mac l = record {
  spelled : l.out.items ++ each_spelling mac_spelling (map mac_data (drop l.mac-index l.receivers)) ≡ l.fn.out.items ++ authenticator_spelling (macs (map mac_data l.receivers));
  kept : take (vec_len l.fn.out) l.out.items ≡ l.fn.out.items;
}

use Rattle.std.proofs.Common.{◌≡◌, ◌++◌, map}
use Rattle.std.specs.Slice.Iter.{chunks_rest, chunks_size}
use Rattle.wire_format.specs.Lists.{Each}
use Rattle.wire_format.specs.Spelling.{IsMac}
use Rattle.terms.specs.Parties.{party_number}
use Rattle.wire_format.specs.Views.{mac_data}
use Rattle.authenticator.specs.Sealing.{entry_for}
use Rattle.authenticator.proofs.ring.Ring.entries.Given as goal

-- the entries made, and those of the receivers that are left, are all
abbrev pub invariant-loop-group : goal.invariant-loop-group
invariant-loop-group l = record {
  made : map mac_data l.entries.items ++ map (entry_for l.self.keys l.sender l.text) (map party_number (chunks_rest l.group-iterator))
      ≡ map (entry_for l.self.keys l.sender l.text) (map party_number l.receivers);
  formed : Each IsMac (map mac_data l.entries.items);
  size : chunks_size l.group-iterator ≡ 4;
  same : l.self ≡ l.fn.self;
}

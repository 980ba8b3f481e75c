use Rattle.std.proofs.Common.{◌≡◌, ◌≤◌, length, map, take}
use Rattle.terms.specs.Parties.{party_number}
use Rattle.wire_format.specs.Views.{mac_data}
use Rattle.authenticator.specs.Keys.{dealt}
use Rattle.authenticator.specs.Sealing.{entry_for}
use Rattle.schedule_world.proofs.faulty.FaultyParty.macs_for.Given as goal

abbrev pub invariant-loop-receiver : goal.invariant-loop-receiver
invariant-loop-receiver l = record {
  seed : l.self.seed ≡ l.fn.self.seed;
  party : l.self.party ≡ l.fn.self.party;
  made :
      map mac_data l.macs.items
      ≡ map (entry_for (dealt l.fn.self.seed) (party_number l.fn.self.party) l.body) (map party_number (take l.receiver-index l.receivers));
  few : length l.macs.items ≤ l.receiver-index;
}

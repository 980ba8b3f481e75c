use Rattle.std.proofs.Common.{◌≡◌, ◌≤◌, ◌+◌, ◌*◌, ◌++◌, drop, map, vec_len, vec_capacity}
use Rattle.std.specs.Int.{w16, to_be_bytes}
use Rattle.terms.specs.Parties.{party_number}
use Rattle.wire_format.specs.Lists.{each_spelling}
use Rattle.records.proofs.writing.put_parties.Given as goal

abbrev pub invariant-loop-party : goal.invariant-loop-party
invariant-loop-party l = record {
  spelled : l.out.items ++ each_spelling (to_be_bytes w16) (map party_number (drop l.party-index l.parties))
      ≡ l.fn.out.items ++ each_spelling (to_be_bytes w16) (map party_number l.parties);
  len : vec_len l.out ≡ vec_len l.fn.out + 2 * l.party-index;
  room : vec_capacity l.fn.out ≤ vec_capacity l.out;
}

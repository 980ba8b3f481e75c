use Rattle.std.proofs.Common.{◌+◌, ◌*◌, ◌≤◌, length, drop, vec_len, vec_capacity}
use Rattle.std.specs.List.{flat_map}
use Rattle.tuple_text.specs.Texts.{hex_pair}
use Rattle.tuple_text.proofs.Writing.{SoFar}
use Rattle.tuple_text.proofs.write.put_pairs.Given as goal

abbrev pub invariant-loop-byte : goal.invariant-loop-byte
invariant-loop-byte g l = record {
  written : SoFar l.fn.out.items l.out.items (flat_map hex_pair (drop l.byte-index l.bytes)) (flat_map hex_pair l.bytes);
  room : vec_len l.out + 2 * length l.bytes ≤ vec_capacity l.out + 2 * l.byte-index;
}

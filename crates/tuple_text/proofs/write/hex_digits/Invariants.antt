use Rattle.std.proofs.Common.{◌≡◌, ◌*◌, length, take}
use Rattle.std.specs.List.{flat_map}
use Rattle.tuple_text.specs.Texts.{hex_pair}
use Rattle.tuple_text.proofs.write.hex_digits.Given as goal

abbrev pub invariant-loop-i : goal.invariant-loop-i
invariant-loop-i l = record {
  whole : length l.digits ≡ 32;
  done : take (2 * l.i) l.digits ≡ flat_map hex_pair (take l.i l.group);
}

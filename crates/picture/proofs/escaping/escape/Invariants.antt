use Rattle.std.proofs.Common.{◌≡◌, ◌++◌, flat_map, string_bytes, encode_utf8_all}
use Rattle.picture.specs.Escaping.{escaped_character}
use Rattle.picture.proofs.escaping.escape.Given as goal

abbrev pub invariant-loop-character : goal.invariant-loop-character
invariant-loop-character l = string_bytes l.out ≡ string_bytes l.fn.out ++ encode_utf8_all (flat_map escaped_character l.yielded)

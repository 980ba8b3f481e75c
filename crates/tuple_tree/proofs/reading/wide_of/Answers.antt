use Rattle.std.proofs.Common.{◌≡◌, ◌≤◌, ℕ, List, length, Some, drop, ap, sym, ◌∙◌, rules}
use Rattle.std.specs.Int.{w128, cast_signed}
use Rattle.std.proofs.lemmas.Int.{to_z-of_z}
use mir.Val.{SFits}
use Rattle.tuple_tree.specs.Values.{wide}
use Rattle.byteorder.specs.Endian.{big_number}
use Rattle.tuple_tree.specs.Reading.{◌>>=◌, wide_at}
use Rattle.tuple_tree.proofs.Numbers.{number_there}
use Rattle.tuple_tree.proofs.reading.wide_of.Goals as goal

wide_there : (bs : List ℕ) → 16 ≤ length bs → wide_at bs ≡ Some (wide (cast_signed w128 (big_number 16 bs)), drop 16 bs)
wide_there bs l = ap (λ o. o >>= λ n. Some (wide (cast_signed w128 n.0), n.1)) (number_there 16 bs l)

-- The search unfolds the sixteen bytes, and gives up.
pub returns : goal.returns
returns c =
    let bs : List ℕ = c.args.bytes.now in
    let n = c.read_i128.result in
    let fits : SFits w128 n = search rules in
    let read : n ≡ cast_signed w128 (big_number 16 bs) = c.read_i128.ensures in
    rw (to_z-of_z w128 n fits) (wide_there bs c.requires ∙ ap (λ m. Some (wide m, drop 16 bs)) (sym read))

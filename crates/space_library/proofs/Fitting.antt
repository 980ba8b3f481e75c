-- Each answer to an operation fits the room for its longest one.
use Rattle.std.proofs.Common.{◌≡◌, ℕ, ◌+◌, ◌*◌, ◌≤◌, Bool, true, false, Option, Some, None, if◌then◌else◌, List, length, take, subst, sym, arith}
use Rattle.std.proofs.lemmas.List.{length-take}
use Rattle.std.specs.Prelude.{is_some}
use Rattle.tuple_tree.specs.Values.{TupleTree}
use Rattle.tuple_codec.specs.Operations.{Operation, out, rdp, inp, cas, rd_all, in_all, upgrade, Outcome, done}
use Rattle.tuple_codec.specs.Operations.{swapped, all, full, refused, IsOutcome}
use Rattle.tuple_codec.specs.Spelling.{outcome_spelling}
use Rattle.tuple_codec.proofs.Lengths.{tuple_short, tuples_short}
use Rattle.space.specs.Applying.{Contents, outcome, served_outcome, found_or_absent, first_match, has_room, refuses}
use Rattle.space_library.specs.Applied.{most_answer}

-- Some answer of one byte fits each operation's room.
one_fits : (o : Operation) → 1 ≤ most_answer o
one_fits (out t) = omega arith
one_fits (rdp p) = omega arith
one_fits (inp p) = omega arith
one_fits (cas p t) = omega arith
one_fits (rd_all n p) = omega arith
one_fits (in_all n p) = omega arith
one_fits upgrade = omega arith

abbrev Fits : Outcome → ℕ → Type 0
Fits r room = length (outcome_spelling r) ≤ room

put_fits : (room : Bool) → Fits (if room then done else full) 1
put_fits true = omega arith
put_fits false = omega arith

swap_fits : (there room : Bool) → Fits (if there then swapped false else if room then swapped true else full) 2
swap_fits true room = omega arith
swap_fits false true = omega arith
swap_fits false false = omega arith

found_fits : (t : Option TupleTree) → IsOutcome (found_or_absent t) → Fits (found_or_absent t) 1025
found_fits None is = omega arith
found_fits (Some t) is = let short = tuple_short t is in omega (arith, short)

all_fit : (n : ℕ) (matches : List TupleTree) → IsOutcome (all (take n matches))
    → Fits (all (take n matches)) (2 + 1024 * n)
all_fit n matches is =
    let short = tuples_short (take n matches) is.1 in
    let few = length-take n matches in
    omega (arith, short, few)

served_fits : (ts : Contents) (o : Operation) → IsOutcome (served_outcome ts o) → Fits (served_outcome ts o) (most_answer o)
served_fits ts (out t) is = put_fits (has_room ts)
served_fits ts (rdp p) is = found_fits (first_match p ts) is
served_fits ts (inp p) is = found_fits (first_match p ts) is
served_fits ts (cas p t) is = swap_fits (is_some (first_match p ts)) (has_room ts)
served_fits ts (rd_all n p) is = all_fit n _ is
served_fits ts (in_all n p) is = all_fit n _ is
served_fits ts upgrade is = omega arith

refused_fits : (is_refused : Bool) (r : Outcome) (o : Operation) → (IsOutcome r → Fits r (most_answer o))
    → IsOutcome (if is_refused then refused else r) → Fits (if is_refused then refused else r) (most_answer o)
refused_fits true r o fits is = one_fits o
refused_fits false r o fits is = fits is

pub answer_fits : (ts : Contents) (o : Operation) (r : Outcome) (room : ℕ) → IsOutcome r → r ≡ outcome ts 0 o → most_answer o ≤ room
    → length (outcome_spelling r) ≤ room
answer_fits ts o r room is e low =
    let valid : IsOutcome (outcome ts 0 o) = subst IsOutcome e is in
    let fits : Fits (outcome ts 0 o) (most_answer o) =
    refused_fits (refuses ts.version 0 o) (served_outcome ts o) o (served_fits ts o) valid in
    let here : Fits r (most_answer o) = subst (λ s. Fits s (most_answer o)) (sym e) fits in
    omega (arith, here, low)

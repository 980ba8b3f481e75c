-- The lengths of spellings.
use Rattle.std.proofs.Common.{◌≡◌, ◌*◌, ◌≤◌, List, [], ◌∷◌, length, length-append, arith}
use Rattle.tuple_tree.specs.Items.{whole_length}
use Rattle.tuple_tree.specs.Values.{IsDatum, IsSlot, datum_length, slot_length, TupleTree, TemplateTree, IsTuple}
use Rattle.tuple_tree.specs.Values.{IsTemplate}
use Rattle.tuple_codec.specs.Operations.{Operation, out, rdp, inp, cas, rd_all, in_all, upgrade, IsOperation, Outcome}
use Rattle.tuple_codec.specs.Operations.{done, found, absent, swapped, all, full, refused, IsOutcome, AreTuples}
use Rattle.tuple_tree.specs.Reading.{datum_at, slot_at}
use Rattle.tuple_tree.specs.Spelling.{datum_spelling, slot_spelling, tuple_spelling, template_spelling}
use Rattle.tuple_codec.specs.Spelling.{tuples_spelling, operation_spelling, outcome_spelling}
use Rattle.tuple_tree.proofs.Leaves.{datum_leaves, slot_leaves}
use Rattle.tuple_tree.proofs.Trees.{whole_spelling_length}

pub tuple_spelling_length : (t : TupleTree) → length (tuple_spelling t) ≡ whole_length datum_length t
tuple_spelling_length t = whole_spelling_length IsDatum datum_length datum_spelling datum_at datum_leaves t

pub template_spelling_length : (t : TemplateTree) → length (template_spelling t) ≡ whole_length slot_length t
template_spelling_length t = whole_spelling_length IsSlot slot_length slot_spelling slot_at slot_leaves t

pub tuple_short : (t : TupleTree) → IsTuple t → length (tuple_spelling t) ≤ 1024
tuple_short t is = let e = tuple_spelling_length t in let l = is.length in omega (arith, e, l)

pub template_short : (p : TemplateTree) → IsTemplate p → length (template_spelling p) ≤ 1024
template_short p is = let e = template_spelling_length p in let l = is.length in omega (arith, e, l)

pub operation_short : (op : Operation) → IsOperation op → length (operation_spelling op) ≤ 2049
operation_short (out t) is = let l = tuple_short t is in omega (arith, l)
operation_short (rdp p) is = let l = template_short p is in omega (arith, l)
operation_short (inp p) is = let l = template_short p is in omega (arith, l)
operation_short (cas p t) is =
    let l = template_short p is.0 in
    let k = tuple_short t is.1 in
    let e = length-append (template_spelling p) (tuple_spelling t) in
    omega (arith, l, k, e)
operation_short (rd_all n p) is = let l = template_short p is.2 in omega (arith, l)
operation_short (in_all n p) is = let l = template_short p is.2 in omega (arith, l)
operation_short upgrade is = omega arith

pub tuples_short : (ts : List TupleTree) → AreTuples ts → length (tuples_spelling ts) ≤ 1024 * length ts
tuples_short [] are = omega arith
tuples_short (t ∷ ts) are =
    let first = tuple_short t are.0 in
    let rest = tuples_short ts are.1 in
    let n = length-append (tuple_spelling t) (tuples_spelling ts) in
    omega (arith, first, rest, n)

pub outcome_short : (o : Outcome) → IsOutcome o → length (outcome_spelling o) ≤ 65538
outcome_short done is = omega arith
outcome_short (found t) is = let l = tuple_short t is in omega (arith, l)
outcome_short absent is = omega arith
outcome_short (swapped b) is = omega arith
outcome_short (all ts) is = let l = tuples_short ts is.1 in let n = is.0 in omega (arith, l, n)
outcome_short full is = omega arith
outcome_short refused is = omega arith

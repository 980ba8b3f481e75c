-- Answers are within the limits.
use Rattle.std.proofs.Common.{ℕ, ◌≤◌, Bool, true, false, cond, List, [], ◌∷◌, take, Some, arith}
use Rattle.std.specs.Prelude.{All, filter, find, is_some}
use Rattle.std.proofs.lemmas.List.{length-take}
use Rattle.std.proofs.lemmas.List.Elements.{All-head, All-tail, All-take, All-filter, All-map}
use Rattle.tuple_tree.specs.Values.{TupleTree, TemplateTree, IsTuple}
use Rattle.tuple_codec.specs.Operations.{Operation, out, rdp, inp, cas, rd_all, in_all, upgrade, IsOperation, IsOutcome}
use Rattle.tuple_codec.specs.Operations.{done, swapped, all, full, refused, AreTuples}
use Rattle.template_match.specs.Tests.{is_match}
use Rattle.space.specs.Applying.{refuses, served_outcome, outcome, has_room, first_match, found_or_absent}
use Rattle.space.specs.Births.{SpaceState, IsState, tuples_of}

found_valid : (test : TupleTree → Bool) (ts : List TupleTree) → All IsTuple ts → IsOutcome (found_or_absent (find test ts))
found_valid test [] h = tt
found_valid test (t ∷ ts) h = go (test t) (found_valid test ts (All-tail IsTuple t ts h))
  where
    go : (b : Bool) → IsOutcome (found_or_absent (find test ts)) → IsOutcome (found_or_absent (cond b (Some t) (find test ts)))
    go true below = All-head IsTuple t ts h
    go false below = below

AreTuples-from_All : (ts : List TupleTree) → All IsTuple ts → AreTuples ts
AreTuples-from_All [] h = tt
AreTuples-from_All (t ∷ ts) h = (All-head IsTuple t ts h, AreTuples-from_All ts (All-tail IsTuple t ts h))

all_valid : (s : SpaceState) (n : ℕ) (p : TemplateTree) → IsState s → n ≤ 64 → IsOutcome (all (take n (filter (is_match p) (tuples_of s).tuples)))
all_valid s n p h most =
    let ts : List TupleTree = filter (is_match p) (tuples_of s).tuples in
    (omega (arith, length-take n ts), AreTuples-from_All (take n ts) (All-take IsTuple n ts (All-filter (is_match p) IsTuple (tuples_of s).tuples (All-map IsTuple (λ e. e.1) s.entries h.tuples))))

served_answers : (s : SpaceState) (o : Operation) → IsState s → IsOperation o → IsOutcome (served_outcome (tuples_of s) o)
served_answers s (out t) h valid = go (has_room (tuples_of s))
  where
    go : (b : Bool) → IsOutcome (cond b done full)
    go true = tt
    go false = tt
served_answers s (rdp p) h valid = found_valid (is_match p) (tuples_of s).tuples (All-map IsTuple (λ e. e.1) s.entries h.tuples)
served_answers s (inp p) h valid = found_valid (is_match p) (tuples_of s).tuples (All-map IsTuple (λ e. e.1) s.entries h.tuples)
served_answers s (cas p t) h valid = go (is_some (first_match p (tuples_of s))) (has_room (tuples_of s))
  where
    go : (b c : Bool) → IsOutcome (cond b (swapped false) (cond c (swapped true) full))
    go true c = tt
    go false true = tt
    go false false = tt
served_answers s (rd_all n p) h valid = all_valid s n p h valid.1
served_answers s (in_all n p) h valid = all_valid s n p h valid.1
served_answers s upgrade h valid = tt

pub answers_are_valid : (s : SpaceState) (client : ℕ) (o : Operation) → IsState s → IsOperation o → IsOutcome (outcome (tuples_of s) client o)
answers_are_valid s client o h valid = go (refuses s.version client o)
  where
    go : (b : Bool) → IsOutcome (cond b refused (served_outcome (tuples_of s) o))
    go true = tt
    go false = served_answers s o h valid

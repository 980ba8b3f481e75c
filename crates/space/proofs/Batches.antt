-- What a batch of operations leaves.
use Rattle.std.proofs.Common.{◌≡◌, ℕ, ◌+◌, ◌*◌, ◌^◌, ◌≤◌, ◌<◌, Bool, true, false, cond, List, [], ◌∷◌, length, Result}
use Rattle.std.proofs.Common.{Ok, Err, refl, sym, subst, arith}
use Rattle.std.specs.Prelude.{All, OnOk, OnErr, fold, is_some}
use Rattle.std.proofs.lemmas.Bool.{ltb-true}
use Rattle.std.proofs.lemmas.List.{length-map}
use Rattle.std.proofs.lemmas.List.Elements.{All-head, All-tail}
use Rattle.tuple_tree.specs.Values.{TupleTree}
use Rattle.tuple_codec.specs.Operations.{Operation, out, rdp, inp, cas, rd_all, in_all, upgrade, IsOperation}
use Rattle.space.specs.Applying.{has_room, most_tuples, refuses, first_match}
use Rattle.space.specs.Births.{SpaceState, IsState, Asked, tuples_of, with_birth, with_tuple, served_state, state_after}
use Rattle.space.specs.Births.{state_after_asked}
use Rattle.space.specs.Pages.{IsStateAt}
use Rattle.space.proofs.Keeping.{most_fit, IsNextBirth-birth_of, IsState-state_after}

next_with_tuple : (s : SpaceState) (t : TupleTree) → (with_tuple s t).next ≤ s.next + 256
next_with_tuple s t = go (has_room (tuples_of s)) refl
  where
    go : (b : Bool) → has_room (tuples_of s) ≡ b → (cond b (with_birth s t) s).next ≤ s.next + 256
    go true e =
        let l = ltb-true (length (tuples_of s).tuples) (most_tuples s.version) e in
        let fit = most_fit s.version in
        let soon = (IsNextBirth-birth_of s (omega (arith, length-map s.entries (λ e. e.1)))).soon in
        omega arith
    go false e = omega arith

-- An operation takes at most 256 births.
served_next : (s : SpaceState) (o : Operation) → (served_state s o).next ≤ s.next + 256
served_next s (out t) = next_with_tuple s t
served_next s (rdp p) = omega arith
served_next s (inp p) = omega arith
served_next s (cas p t) = go (is_some (first_match p (tuples_of s)))
  where
    go : (b : Bool) → (cond b s (with_tuple s t)).next ≤ s.next + 256
    go true = omega arith
    go false = next_with_tuple s t
served_next s (rd_all n p) = omega arith
served_next s (in_all n p) = omega arith
served_next s upgrade = omega arith

pub next_after : (s : SpaceState) (client : ℕ) (o : Operation) → (state_after s client o).next ≤ s.next + 256
next_after s client o = go (refuses s.version client o)
  where
    go : (b : Bool) → (cond b s (served_state s o)).next ≤ s.next + 256
    go true = omega arith
    go false = served_next s o

abbrev IsAsked : Asked → Type 0
IsAsked x = IsOperation x.op

all_after : (s : SpaceState) (os : List Asked) → IsState s → All IsAsked os → IsState (fold state_after_asked s os) × ((fold state_after_asked s os).next ≤ s.next + 256 * length os)
all_after s [] h valid = (h, omega arith)
all_after s (o ∷ os) h valid =
    let one = next_after s o.client o.op in
    let rest = all_after (state_after_asked s o) os (IsState-state_after s o.client o.op h (All-head IsAsked o os valid)) (All-tail IsAsked o os valid) in
    let more = rest.1 in
    (rest.0, omega arith)

pub batches_leave_states : (s : SpaceState) (number : ℕ) (os : List Asked) → IsStateAt s number → length os ≤ 16 → All IsAsked os → number + 1 < 2 ^ 48 → IsStateAt (fold state_after_asked s os) (number + 1)
batches_leave_states s number os h few valid below =
    let all = all_after s os h.state valid in
    let births = h.births in
    let more = all.1 in
    record { state = all.0; births = omega arith; few = below }

-- An operation that failed takes none.
pub next_bounded : {T E : Type 0} (r : Result T E) (old new : SpaceState) (client : ℕ) (o : Operation) → OnOk r (new ≡ state_after old client o) → OnErr r (new ≡ old) → new.next ≤ old.next + 256
next_bounded (Ok x) old new client o h k = subst (λ (s : SpaceState). s.next ≤ old.next + 256) (sym h) (next_after old client o)
next_bounded (Err e) old new client o h k = subst (λ (s : SpaceState). s.next ≤ old.next + 256) (sym k) (omega arith)

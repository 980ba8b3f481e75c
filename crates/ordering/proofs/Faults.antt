-- What holds of a message that the log does not drop.
use Rattle.std.proofs.Common.{◌≡◌, ℕ, ◌<◌, Bool, true, false, cond, List, Option, Some, None, refl, nat_lt, not, ◌==◌, ◌&&◌}
use Rattle.std.proofs.lemmas.Bool.{and_parts, ltb-true}
use Rattle.quorum.specs.Votes.{or_else}
use Rattle.ordering.specs.declared.dropped.Dropped.{Dropped}
use Rattle.ordering.specs.declared.dropped.Dropped.TheVariants.{WrongView, OutOfMarks, UnknownSender}
use Rattle.ordering.specs.Log.{LogData, replicas, primary, is_active_in, is_in_marks}
use Rattle.ordering.specs.Taking.{ordering_fault, preprepare_fault, prepare_fault, commit_fault}

first_none : (first later : Option Dropped) → or_else first later ≡ None → first ≡ None
first_none None later h = refl
first_none (Some fault) later h = absurd cc

no_fault : (m : LogData) (may_send : Bool) (v i : ℕ) → ordering_fault m may_send v i ≡ None → (may_send ≡ true) × (is_in_marks m i ≡ true)
no_fault m may_send v i = go may_send (is_active_in m v) (is_in_marks m i)
  where
    go : (sends active within : Bool) → cond (not sends) (Some UnknownSender) (cond (not active) (Some WrongView) (cond (not within) (Some OutOfMarks) None)) ≡ None → (sends ≡ true) × (within ≡ true)
    go false active within h = absurd cc
    go true false within h = absurd cc
    go true true false h = absurd cc
    go true true true h = (refl, refl)

pub batch_in_marks : (m : LogData) (s v i : ℕ) (text : List ℕ) → preprepare_fault m s v i text ≡ None → is_in_marks m i ≡ true
batch_in_marks m s v i text h = (no_fault m (s == primary m v) v i (first_none _ _ h)).1

pub prepare_in_marks : (m : LogData) (s v i : ℕ) (digest : List ℕ) → prepare_fault m s v i digest ≡ None → is_in_marks m i ≡ true
prepare_in_marks m s v i digest h = (no_fault m (nat_lt s (replicas m) && not (s == primary m v)) v i (first_none _ _ h)).1

pub prepare_known : (m : LogData) (s v i : ℕ) (digest : List ℕ) → prepare_fault m s v i digest ≡ None → s < replicas m
prepare_known m s v i digest h =
    let k = (no_fault m (nat_lt s (replicas m) && not (s == primary m v)) v i (first_none _ _ h)).0 in
    ltb-true s (replicas m) (and_parts (nat_lt s (replicas m)) (not (s == primary m v)) k).0

pub commit_in_marks : (m : LogData) (s v i : ℕ) (digest : List ℕ) → commit_fault m s v i digest ≡ None → is_in_marks m i ≡ true
commit_in_marks m s v i digest h = (no_fault m (nat_lt s (replicas m)) v i (first_none _ _ h)).1

pub commit_known : (m : LogData) (s v i : ℕ) (digest : List ℕ) → commit_fault m s v i digest ≡ None → s < replicas m
commit_known m s v i digest h = ltb-true s (replicas m) (no_fault m (nat_lt s (replicas m)) v i (first_none _ _ h)).0

-- Desk and log of a new replica, and what holds in the end.
use Rattle.std.proofs.Common.{◌≡◌, ℕ, zero, suc, ◌+◌, ◌*◌, ◌<◌, ◌≤◌, inl, cond, List, [], ◌∷◌, refl, sym, ap, ◌∙◌, subst, arith, Option, Some, None, replicate, slice_index_or}
use Rattle.std.proofs.lemmas.List.{length-replicate}
use Rattle.std.proofs.lemmas.List.Elements.{All-replicate}
use Rattle.wire_format.specs.Messages.{CheckpointEntryData as CheckpointEntry}
use Rattle.wire.proofs.Skipping.{none_chosen}
use Rattle.ordering.specs.Votes.{voted_digest}
use Rattle.ordering.specs.Log as logs
use Rattle.ordering.specs.Log.{Row, no_row, LogData, new_log}
use Rattle.ordering.specs.Keeping.{IsRow, IsLog}
use Rattle.ordering.proofs.Moving.{empty}
use Rattle.protocol.specs.System.Configuration.{Configuration, replicas, span}
use Rattle.protocol.specs.Replica.Certificates.{view, low, logged, prepare_of, commit_of, checkpoints_of}
use Rattle.protocol.specs.Replica.RightReplica.{first_point}
use Rattle.replica_histories.specs.Logs.{checkpoints_above, AreLatest, FitsViews, FitsLog}
use Rattle.replica_histories.specs.Histories.{first_desk, FirstHold, HeldAreReplicas}
use Rattle.replica_histories.proofs.Latest.{none_latest}
use Rattle.replica_histories.proofs.TransfersTaking.{nothing_at_first}
use Rattle.replica_histories.proofs.TransfersQuorums.{quorums_first}

no_checkpoints : (n s : ℕ) → slice_index_or (replicate n (let none : List CheckpointEntry = [] in none)) s [] ≡ []
no_checkpoints zero s = refl
no_checkpoints (suc n) zero = refl
no_checkpoints (suc n) (suc s) = no_checkpoints n s

module _ (c : Configuration) (me : ℕ) (some : 1 ≤ c.faults) (few : c.faults ≤ 3) (mine : me < replicas c) (fits : span c ≤ 32) where
  abbrev started : LogData
  started = new_log me c.faults (span c)

  is_log : IsLog started
  is_log = record {
    some = some;
    few = few;
    me = mine;
    span = fits;
    low = omega arith;
    size = length-replicate (span c) no_row;
    rows = All-replicate (IsRow (logs.replicas started)) (span c) no_row (record { prepares = tt; commits = tt });
    checkpoints = length-replicate (3 * c.faults + 1) (none_checked);
  }
    where
      none_checked : List CheckpointEntry
      none_checked = []

  no_reading : {A : Type 0} (of : Row → Option A) → of no_row ≡ None → (i : ℕ) → cond (logs.is_in_marks started i) (of (logs.row_of started i)) None ≡ None
  no_reading of none i = none_chosen (logs.is_in_marks started i) (of (logs.row_of started i)) (ap of (empty (span c) (logs.place started i)) ∙ none)

  no_digest : (i : ℕ) → logs.logged_digest started i ≡ None
  no_digest i = no_reading logs.digest_of refl i

  first_views : FitsViews c me started []
  unfolding logged prepare_of commit_of
  first_views = record {
    decided = λ i batch k h. absurd (let bad : None ≡ Some batch = sym (ap (λ (r : Row). r.decided) (empty (span c) (logs.place started i))) ∙ h in cc);
    all_decided = λ v i batch below k h. absurd (omega arith);
    voted = λ v i batch k earlier h. absurd (let l : None ≡ Some batch = h.logged in cc);
    later = λ v i s above. (refl, refl);
  }

  first_fits : FitsLog c me started []
  unfolding view low logged prepare_of commit_of checkpoints_of
  first_fits = record {
    is_log = is_log;
    own = refl;
    faults = refl;
    span = refl;
    active = refl;
    view = refl;
    low = refl;
    batches = λ i k. sym (no_reading (λ r. r.batch) refl i);
    prepares = λ i s k. sym (no_reading (λ r. voted_digest r.prepares s) refl i);
    commits = λ i s k. sym (no_reading (λ r. voted_digest r.commits s) refl i);
    within = λ v i batch h. absurd cc;
    above = λ i s l out. (refl, refl);
    begins = λ v batch h. absurd h;
    settled = λ is_active i batch l h. absurd cc;
    views = first_views;
    checkpoints = λ s. ap (checkpoints_above 0) (sym (no_checkpoints (3 * c.faults + 1) s));
    latest = λ s. subst AreLatest (sym (no_checkpoints (3 * c.faults + 1) s)) none_latest;
  }

pub first_hold : FirstHold
unfolding low
first_hold c me some few mine fits = record {
  of_desk = record {
    point = first_point;
    proceeds = (refl, refl);
    is = refl;
    kept = refl;
    frames = λ frame h. absurd h;
    opened = (omega arith, nothing_at_first c me);
    fetches = quorums_first c first_desk.state.number;
  };
  of_log = record {
    fits = first_fits c me some few mine fits;
    prepares = λ i. none_chosen _ _ (no_digest c me some few mine fits i);
    commits = λ i. none_chosen _ _ (no_digest c me some few mine fits i);
  };
  low = inl (omega arith);
}

pub held_are_replicas : HeldAreReplicas
held_are_replicas c me desk log [] h = tt
held_are_replicas c me desk log (e ∷ past) h = inl (h.of_desk.point, h.of_desk.proceeds)

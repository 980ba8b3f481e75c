-- Each correct replica commits what each has logged as a view begins, and executes it in its turn.
use Rattle.std.proofs.Common.{◌≡◌, ℕ, ◌⊎◌, inl, inr, true, List, [], ◌++◌, Some, sym, subst}
use Rattle.protocol.specs.System.Configuration.{Configuration, IsConfiguration, primary, is_correct_replica}
use Rattle.protocol.specs.System.Trace.{Entry, history_of, Unforged}
use Rattle.protocol.specs.System.Run.{IsRun, OnlyTheseStopped}
use Rattle.protocol.specs.Replica.Certificates.{logged, Committed}
use Rattle.protocol.proofs.Words.Reacting.{is_replica_right}
use Rattle.protocol.proofs.Agreement.States.{history_append}
use Rattle.progress.specs.Redelivered.{AllRedelivered, StaysActive, IsGiven}
use Rattle.progress.specs.Assigned.{NumberIsAssigned, AssignedNumbersAreExecuted}
use Rattle.progress.proofs.Committing.{committed_by_log}
use Rattle.progress.proofs.Redelivering.{active, reaches, committed, all_numbers}
use Rattle.progress.proofs.Steady.{logged_later}

pub assigned_is_committed : (c : Configuration) → IsConfiguration c → (later start : List Entry) → IsRun c (later ++ start) → OnlyTheseStopped c [] (later ++ start) → Unforged c (later ++ start) → (v : ℕ)
    → is_correct_replica c (primary c v) ≡ true → ((q : ℕ) → is_correct_replica c q ≡ true → StaysActive c v later start q) → AllRedelivered c later start
    → (i : ℕ) (assigned : NumberIsAssigned c v i later start) (s : ℕ) → is_correct_replica c s ≡ true → Committed c s (history_of s (later ++ start)) v i assigned.batch
assigned_is_committed c setting later start run goes unforged v from stays all i assigned s other =
    committed_by_log c setting (later ++ start) goes (λ p h. is_replica_right c p (history_of p (later ++ start)) (run.replicas p h)) unforged v i assigned.batch from
    (active c setting later start run goes unforged v from stays all i)
    (λ q h. inr (reaches c setting later start run goes unforged v from stays all i q h (assigned.each q h).0)) logs_it s other
  where
    logs_it : (q : ℕ) → is_correct_replica c q ≡ true → logged c q (history_of q (later ++ start)) v i ≡ Some assigned.batch
    logs_it q h = subst (λ (xs : List Entry). logged c q xs v i ≡ Some assigned.batch) (sym (history_append q later start)) (logged_later c q v i assigned.batch (history_of q later) (history_of q start) (assigned.each q h).1)

pub assigned_numbers_are_executed : AssignedNumbersAreExecuted
assigned_numbers_are_executed c setting later start run goes unforged v m from stays all r correct numbered =
    all_numbers c setting later start run goes unforged v from stays all r m correct (λ i above below. each i (numbered i above below))
  where
    each : (i : ℕ) → NumberIsAssigned c v i later start ⊎ IsGiven c v i later start → (batch : List ℕ) × Committed c r (history_of r (later ++ start)) v i batch
    each i (inl assigned) = (assigned.batch, assigned_is_committed c setting later start run goes unforged v from stays all i assigned r correct)
    each i (inr given) = (given.batch, committed c setting later start run goes unforged v from stays all i given r correct)

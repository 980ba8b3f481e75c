-- Runs: traces in which each correct party follows the protocol, whatever faulty parties send and however frames come.
use Rattle.std.specs.Prelude.{◌≡◌, ℕ, true, false, List, [], ◌∷◌}
use Rattle.quorum.specs.Quorum.{member}
use Rattle.wire_format.specs.Lists.{Each}
use Rattle.protocol.specs.System.Configuration.{Configuration, is_correct, is_correct_replica, is_correct_client}
use Rattle.protocol.specs.System.Trace.{Entry, party_of, is_output, history_of, Always}
use Rattle.protocol.specs.Client.RightClient.{IsClient, IsClientOfLives, IsPromptClient}
use Rattle.protocol.specs.Replica.Owed.{IsReplica, IsPromptReplica}

-- an output directly follows its event's input or another output of the event
abbrev pub OutputFollows : List Entry → Entry → Type 0
OutputFollows [] e = is_output e ≡ false
OutputFollows (before ∷ past) e = is_output e ≡ true → party_of before ≡ party_of e

-- Each correct replica's history is a correct replica's, and each correct client's is by this rule a correct client's;
-- either may have stopped. No other parties have entries. The outputs of an event follow its input before the next input.
pub record IsRunBy (Client : Configuration → ℕ → List Entry → Type 0) (c : Configuration)
    (trace : List Entry) : Type 0 where
  pub replicas : (p : ℕ) → is_correct_replica c p ≡ true → IsReplica c p (history_of p trace)
  pub clients : (p : ℕ) → is_correct_client c p ≡ true → Client c p (history_of p trace)
  pub parties : Always (λ past e. is_correct c (party_of e) ≡ true) trace
  pub events : Always OutputFollows trace

-- each correct client has one life, with the timestamps 1, 2, ..
abbrev pub IsRun : Configuration → List Entry → Type 0
IsRun c trace = IsRunBy IsClient c trace

-- correct clients may be started again
abbrev pub IsRunOfLives : Configuration → List Entry → Type 0
IsRunOfLives c trace = IsRunBy IsClientOfLives c trace

-- ---- who stopped

-- The party's newest entry is an input, for which it gave no output.
abbrev pub GaveNothingLast : List Entry → Type 0
GaveNothingLast [] = ⊥
GaveNothingLast (e ∷ past) = is_output e ≡ false

-- Each correct party that is not listed does all that it owes, to the end of the trace. Each listed party is correct,
-- and gave no output for its last input.
pub record OnlyTheseStopped (c : Configuration) (stopped : List ℕ) (trace : List Entry) : Type 0 where
  pub replicas : (p : ℕ) → is_correct_replica c p ≡ true → member stopped p ≡ false
      → IsPromptReplica c p (history_of p trace)
  pub clients : (p : ℕ) → is_correct_client c p ≡ true → member stopped p ≡ false
      → IsPromptClient c p (history_of p trace)
  pub silent : Each (λ p. (is_correct c p ≡ true) × GaveNothingLast (history_of p trace)) stopped

-- The output of a run on a cluster, and the complaint about one that did not end well.
use Rattle.std.specs.Prelude.{◌≡◌, ℕ, List, map, Option, Result, MatchResult, ⊤}
use Rattle.std.specs.List.{flat_map}
use Rattle.std.specs.Io.KnownBytes.{Appends}
use Rattle.std.specs.declared.alloc.Global.{Global}
use Rattle.tuple_codec.specs.OperationView.{operation_of, outcome_of}
use Rattle.tuple_codec.specs.declared.operations.Answer.{Answer}
use Rattle.tuple_codec.specs.declared.operations.Op.{Op}
use Rattle.protocol.specs.System.Configuration.{Configuration as ClusterConfiguration}
use Rattle.cluster_run.specs.Answers.{AnswersRun}
use Rattle.one_space.specs.Complaints.{OfWrite}
use Rattle.one_space.specs.Run.{result_line}
use Rattle.one_space.specs.declared.complaints.Complaint.{Complaint}
use Rattle.one_space.specs.declared.complaints.Complaint.TheVariants as complaint
use Rattle.run_command.specs.declared.running.RunFault.{RunFault}
use Rattle.run_command.specs.declared.running.RunFault.TheVariants.{Configuration, Drills, Stopped, NoMemory, Write}

abbrev pub answer_line : Answer Global → List ℕ
answer_line answer = result_line (outcome_of answer)

-- a result line for each answer
abbrev pub results_text : List (Answer Global) → List ℕ
results_text answers = flat_map answer_line answers

-- The result lines of the operations' answers were added. The clients accepted these in a proper trace of this
-- cluster.
pub record PrintsResults (c : ClusterConfiguration) (ops : List (Op Global)) (old new : Option (List ℕ)) : Type 0 where
  pub answers : List (Answer Global)
  pub accepted : AnswersRun c (map operation_of ops) (map outcome_of answers)
  pub written : Appends old new (results_text answers)

-- Nothing was written, unless the writer failed.
abbrev pub PrintsNone : RunFault → Option (List ℕ) → Option (List ℕ) → Type 0
PrintsNone Configuration old new = new ≡ old
PrintsNone (Drills fault) old new = new ≡ old
PrintsNone (Stopped fault) old new = new ≡ old
PrintsNone NoMemory old new = new ≡ old
PrintsNone (Write error) old new = ⊤

-- All results were printed, or none, whatever else is given at Ok.
abbrev pub EndsCluster :
    {T : Type 0} → ClusterConfiguration → List (Op Global) → Result T RunFault → Option (List ℕ) → Option (List ℕ)
    → Type 0
EndsCluster c ops result old new =
    MatchResult result (λ _. PrintsResults c ops old new) (λ fault. PrintsNone fault old new)

-- the same for given answers
abbrev pub WritesResults : Result (Unit {0}) RunFault → List (Answer Global) → Option (List ℕ) → Option (List ℕ)
    → Type 0
WritesResults result answers old new =
    MatchResult result (λ _. Appends old new (results_text answers)) (λ fault. PrintsNone fault old new)

abbrev pub IsNoWrite : RunFault → Type 0
IsNoWrite Configuration = ⊤
IsNoWrite (Drills fault) = ⊤
IsNoWrite (Stopped fault) = ⊤
IsNoWrite NoMemory = ⊤
IsNoWrite (Write error) = ⊥

-- A faulty party, and drills that no cluster has, are refused as the configuration.
abbrev pub TellsRun : RunFault → Complaint → Type 0
TellsRun Configuration c = c ≡ complaint.Configuration
TellsRun (Drills fault) c = c ≡ complaint.Configuration
TellsRun (Stopped fault) c = c ≡ complaint.Stopped
TellsRun NoMemory c = c ≡ complaint.Stopped
TellsRun (Write error) c = OfWrite error c

-- the status of the program: 1 if the configuration is refused, 3 if the run was stopped
abbrev pub IsRunStatus : RunFault → ℕ → Type 0
IsRunStatus Configuration status = status ≡ 1
IsRunStatus (Drills fault) status = status ≡ 1
IsRunStatus (Stopped fault) status = status ≡ 3
IsRunStatus NoMemory status = status ≡ 3
IsRunStatus (Write error) status = status ≡ 3

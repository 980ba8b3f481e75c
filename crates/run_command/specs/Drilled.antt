-- The drills that words ask for, and the settings of a cluster that has them.
use Rattle.std.specs.Prelude.{◌≡◌, ◌≢◌, ◌<◌, ◌≤◌, ◌==◌, ℕ, true, List, [], ◌∷◌, length, All, AllPairs, Option, Some, None, Result, Ok, Err, ⊤}
use Rattle.std.specs.List.{filter, flat_map}
use Rattle.quorum.specs.Quorum.{member}
use Rattle.protocol.specs.System.Configuration.{Configuration, replicas}
use Rattle.space_node.specs.Drills.{MayStart}
use Rattle.space_node.specs.Runs.{IsFaultless}
use Rattle.space_node.specs.declared.drill.Drill.{Drill}
use Rattle.space_node.specs.declared.drill.Drill.TheVariants as drill
use Rattle.command_line.specs.declared.drills.DrillKind.{DrillKind}
use Rattle.command_line.specs.declared.drills.DrillKind.TheVariants as kind
use Rattle.command_line.specs.declared.drills.Drilled.{Drilled}
use Rattle.command_line.specs.declared.drills.Drills.{Drills}
use Rattle.config_text.specs.declared.settings.Settings.{Settings}
use Rattle.run_command.specs.declared.drills.DrillFault.{DrillFault}
use Rattle.run_command.specs.declared.drills.DrillFault.TheVariants.{TooMany, NoReplica, Twice}
use Rattle.run_command.specs.declared.running.RunFault.{RunFault}
use Rattle.run_command.specs.declared.running.RunFault.TheVariants as faults

-- ---- what the words ask for

abbrev pub kind_asked : DrillKind → Drill
kind_asked kind.Silent = drill.Silent
kind_asked kind.Stale = drill.Stale

-- a drill with the number of its replica
abbrev pub drill_asked : Drilled → ℕ × Drill
drill_asked asked = (asked.replica, kind_asked asked.kind)

abbrev pub one_asked : Option Drilled → List (ℕ × Drill)
one_asked None = []
one_asked (Some asked) = drill_asked asked ∷ []

-- all of them, in the order of the words
abbrev pub drills_asked : Drills → List (ℕ × Drill)
drills_asked asked = flat_map one_asked asked.0

-- ---- the clusters that may have drills of these replicas

-- these numbers are below n, and no two are the same
abbrev pub AreReplicas : ℕ → List ℕ → Type 0
AreReplicas n numbers = All (λ r. r < n) numbers × AllPairs (λ r s. r ≢ s) numbers

-- no more than may be faulty, each a replica, and no two the same
abbrev pub MayBeDrilled : Configuration → List ℕ → Type 0
MayBeDrilled c numbers = (length numbers ≤ c.faults) × AreReplicas (replicas c) numbers

-- the same configuration, of which exactly these replicas are faulty
abbrev pub drilled_config : Configuration → List ℕ → Configuration
drilled_config c numbers = record c { faulty_replicas = numbers; faulty_clients = [] }

-- the same settings, but for the faulty parties: a cluster with drills of these replicas may start
pub record IsDrilledFor (settings : Settings) (numbers : List ℕ) (made : Settings) : Type 0 where
  pub config : made.config ≡ drilled_config settings.config numbers
  pub journal : made.journal ≡ settings.journal
  pub may_start : MayStart made.config numbers

-- ---- why there is none

-- a number is no replica's, or has two drills
abbrev pub IsWrongReplica : ℕ → List ℕ → DrillFault → Type 0
IsWrongReplica n numbers (TooMany most count) = ⊥
IsWrongReplica n numbers (NoReplica r count) = (count ≡ n) × (n ≤ r) × (member numbers r ≡ true)
IsWrongReplica n numbers (Twice r) = 2 ≤ length (filter (λ s. s == r) numbers)

-- The fault says why no cluster of the configuration has these drills.
abbrev pub IsDrillFault : Configuration → List ℕ → DrillFault → Type 0
IsDrillFault c numbers (TooMany most count) = (most ≡ c.faults) × (count ≡ replicas c) × (c.faults < length numbers)
IsDrillFault c numbers (NoReplica r count) = IsWrongReplica (replicas c) numbers (NoReplica r count)
IsDrillFault c numbers (Twice r) = IsWrongReplica (replicas c) numbers (Twice r)

-- The settings for drills of these replicas, or why there are none. A faulty party in the given settings is told first.
abbrev pub EndsDrilled : Settings → List ℕ → Result Settings RunFault → Type 0
EndsDrilled settings numbers (Ok made) = IsFaultless settings.config × IsDrilledFor settings numbers made
EndsDrilled settings numbers (Err faults.Configuration) = ¬ IsFaultless settings.config
EndsDrilled settings numbers (Err (faults.Drills fault)) =
    IsFaultless settings.config × IsDrillFault settings.config numbers fault
EndsDrilled settings numbers (Err (faults.Stopped fault)) = ⊥
EndsDrilled settings numbers (Err faults.NoMemory) = ⊤
EndsDrilled settings numbers (Err (faults.Write error)) = ⊥

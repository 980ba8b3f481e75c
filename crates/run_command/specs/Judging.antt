-- The search for a wrong drill. The contract of a private function uses it.
use Rattle.std.specs.Prelude.{ℕ, nat_lt, if◌then◌else◌, List, [], ◌∷◌, Option, Some, None}
use Rattle.quorum.specs.Quorum.{member}
use Rattle.run_command.specs.declared.drills.DrillFault.{DrillFault}
use Rattle.run_command.specs.declared.drills.DrillFault.TheVariants.{NoReplica, Twice}

-- the first of these numbers that is not below n, or stands among the later ones
abbrev pub first_wrong : ℕ → List ℕ → Option DrillFault
first_wrong n [] = None
first_wrong n (r ∷ rs) =
    if nat_lt r n then (if member rs r then Some (Twice r) else first_wrong n rs) else Some (NoReplica r n)

use Rattle.std.proofs.Common.{◌≡◌, drop}
use Rattle.std.specs.Prelude.{◌==◌}
use Rattle.std.specs.Map.{lookup}
use Rattle.space.proofs.stored.search.Given as goal

-- an entry of the birth is among those that are left
abbrev pub invariant-loop-place : goal.invariant-loop-place
invariant-loop-place l = lookup (λ k. l.birth == k) l.entries ≡ lookup (λ k. l.birth == k) (drop l.place l.entries)

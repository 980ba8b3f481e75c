use Rattle.std.proofs.Common.{◌≡◌, drop}
use Rattle.std.specs.Prelude.{find}
use Rattle.template_match.specs.Tests.{is_match}
use Rattle.space.specs.Found.{entries_at}
use Rattle.space.proofs.matching.oldest_match.Given as goal

-- the first match is among the births that are left
abbrev pub invariant-loop-birth : goal.invariant-loop-birth
invariant-loop-birth g l =
    find (λ e. is_match l.template e.1) (entries_at l.tuples.entries l.births) ≡ find (λ e. is_match l.template e.1) (entries_at l.tuples.entries (drop l.birth-index l.births))

-- Which number a primary assigns next.
use Rattle.std.specs.Prelude.{◌≡◌, ℕ, suc, true, max}
use Rattle.ordering.specs.Log as logs
use Rattle.orderer.specs.State.{OrdererData}

-- the one above the low mark and all assigned numbers
abbrev pub next_number : OrdererData → ℕ
next_number o = suc (max o.log.low o.used)

-- The active primary may assign it: it is within the marks.
abbrev pub IsFree : OrdererData → Type 0
IsFree o = (logs.primary o.log o.log.view ≡ o.log.me) × (logs.is_in_marks o.log (next_number o) ≡ true)
    × (o.log.active ≡ true)

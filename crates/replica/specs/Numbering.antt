-- Which number a primary assigns next, and what a request brings that waits already.
use Rattle.std.specs.Prelude.{◌≡◌, ◌+◌, ◌≤◌, true, false, List}
use Rattle.events.specs.declared.output.Output.{Output}
use Rattle.ordering.specs.Log as logs
use Rattle.orderer.specs.Numbering.{next_number}
use Rattle.orderer.specs.Multicasting.{GoesAgain, OutputsHaveAll, OutputsHaveViewChange}
use Rattle.replica.specs.State.{BothPartsData}
use Rattle.desk.specs.Waiting.{count_unnumbered}

-- An active primary may assign the next number: it is within the marks, at most two above the executed one.
abbrev pub IsNextFree : BothPartsData → Type 0
IsNextFree r =
    (logs.primary r.orderer.log r.orderer.log.view ≡ r.orderer.log.me)
    × (logs.is_in_marks r.orderer.log (next_number r.orderer) ≡ true)
    × (next_number r.orderer ≤ r.desk.executed.state.number + 2) × (r.orderer.log.active ≡ true)

-- if it may, no request waits for a number
abbrev pub IsAllNumbered : BothPartsData → Type 0
IsAllNumbered r = IsNextFree r → count_unnumbered r.desk.waiting ≡ 0

-- ---- a request that waits already

-- A replica to which a waiting request comes again multicasts all again while it is active, and else its view change. A
-- history that fits the earlier outputs fits the later ones.
pub record AllAgain (old : BothPartsData) (before : List Output) (new : BothPartsData)
    (after : List Output) : Type 0 where
  pub same : new ≡ old
  pub goes : GoesAgain 0 old.orderer before old.orderer after
  pub active : old.orderer.log.active ≡ true → OutputsHaveAll old.desk.executed.state.number old.orderer after
  pub inactive : old.orderer.log.active ≡ false → OutputsHaveViewChange old.orderer after

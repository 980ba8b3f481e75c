use Rattle.std.proofs.Common.{◌≡◌, ◌↔◌, ◌≤◌, length, drop}
use Rattle.protocol.specs.System.Trace.{history_of}
use Rattle.journal.proofs.comparing.is_history.Given as goal

-- the rests of both decide it
abbrev pub invariant-loop-entry : goal.invariant-loop-entry
invariant-loop-entry l =
    (l.at ≤ length l.history)
    × ((history_of l.party (drop l.entry-index l.entries) ≡ drop l.at l.history) ↔ (history_of l.party l.entries ≡ l.history))

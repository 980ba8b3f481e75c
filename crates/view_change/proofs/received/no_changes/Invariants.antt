use Rattle.std.proofs.Common.{◌≡◌, None, replicate}
use Rattle.view_change.proofs.received.no_changes.Given as goal

abbrev pub invariant-loop-sender : goal.invariant-loop-sender
invariant-loop-sender l = l.held.items ≡ replicate l._sender None

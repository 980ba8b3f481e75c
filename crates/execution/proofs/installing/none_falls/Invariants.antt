use Rattle.std.proofs.Common.{ℕ, ◌≤◌, ◌<◌}
use Rattle.reply_cache.specs.Replies.{seen_of}
use Rattle.execution.proofs.installing.none_falls.Given as goal

abbrev pub invariant-loop-number : goal.invariant-loop-number
invariant-loop-number l = (client : ℕ) → client < l.number → seen_of l.old client ≤ seen_of l.new client

use Rattle.std.proofs.Common.{◌≤◌, length, rules}
use Rattle.schedule_command.proofs.Reasons.{receivers_ordered}
use Rattle.schedule_command.proofs.allowed.not_receivers.Goals as goal

pub returns-in-None : goal.returns-in-None
returns-in-None c =
    let some : 1 ≤ length c.args.receivers.now = search rules in
    let few : length c.args.receivers.now ≤ 10 = search rules in
    receivers_ordered c.args.config.now c.args.receivers.now c.not_ascending.result some few (rw c.in-None.is at c.stranger.ensures) c.not_ascending.ensures

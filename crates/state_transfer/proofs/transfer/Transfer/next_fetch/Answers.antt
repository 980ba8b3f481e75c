use Rattle.std.proofs.Common.{sym, ◌∙◌}
use Rattle.state_transfer.proofs.Seeking.{next_in_same}
use Rattle.state_transfer.proofs.transfer.Transfer.next_fetch.Goals as goal

pub returns-in_err-place-clause-place : goal.returns-in_err-place-clause-place
returns-in_err-place-clause-place c = c.from_residual.ensures ∙ sym (next_in_same c.args.self.now c.in_err-place.ensures.none)

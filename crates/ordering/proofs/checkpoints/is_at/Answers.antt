use Rattle.std.proofs.Common.{◌∙◌, sym}
use Rattle.std.proofs.lemmas.Bool.{le-ltb}
use Rattle.ordering.proofs.Placing.{stands_in, stands_out}
use Rattle.ordering.proofs.checkpoints.is_at.Goals as goal

pub returns-then-place-entries : goal.returns-then-place-entries
returns-then-place-entries c = stands_in c.args.number.0 c.args.entries.now c.args.place _ c.if-place-entries.true

pub returns-else-place-entries : goal.returns-else-place-entries
returns-else-place-entries c = le-ltb _ _ c.if-place-entries.false ∙ sym (stands_out c.args.number.0 c.args.entries.now c.args.place c.if-place-entries.false)

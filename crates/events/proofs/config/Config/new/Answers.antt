use Rattle.std.proofs.Common.{refl, sym, ◌∙◌}
use Rattle.events.specs.ConfigView.{configuration_of}
use Rattle.events.proofs.Checked.{is_valid, passes}
use Rattle.events.proofs.config.Config.new.Goals as goal

pub returns-then-not-is_valid-clause-only : goal.returns-then-not-is_valid-clause-only
returns-then-not-is_valid-clause-only c v =
    sym c.if-not-is_valid.true ∙ (rw (c.as_slice.ensures.value, c.as_slice-2.ensures.value) at c.is_valid.ensures)
    ∙ passes (configuration_of c.args.faults c.args.clients c.args.seed c.args.period c.args.faulty_replicas.items c.args.faulty_clients.items) v

pub invariant_of-result : goal.invariant_of-result
invariant_of-result c =
    is_valid (configuration_of c.args.faults c.args.clients c.args.seed c.args.period c.args.faulty_replicas.items c.args.faulty_clients.items) c.note_seed.ensures refl
    (sym (rw (c.as_slice.ensures.value, c.as_slice-2.ensures.value) at c.is_valid.ensures) ∙ c.if-not-is_valid.false)

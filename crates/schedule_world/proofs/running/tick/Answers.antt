use Rattle.std.proofs.Common.{sym, ◌∙◌}
use Rattle.terms.specs.Parties.{party_number}
use Rattle.schedule_world.proofs.Taking.{leads_tick}
use Rattle.schedule_world.proofs.running.tick.Goals as goal

pub returns-clause-takes : goal.returns-clause-takes
returns-clause-takes c =
    leads_tick c.args.config.now c.args.stage.now c.tick.new.self (party_number c.args.party) (sym c.is_correct.ensures ∙ c.if-not-is_correct.false) c.in_ok-tick.ensures.comes

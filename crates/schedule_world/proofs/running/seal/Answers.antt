use Rattle.std.proofs.Common.{map, sym, ◌∙◌}
use Rattle.terms.specs.Parties.{party_number}
use Rattle.schedule_world.proofs.Taking.{leads_seal}
use Rattle.schedule_world.proofs.running.seal.Goals as goal

pub returns-clause-takes : goal.returns-clause-takes
returns-clause-takes c =
    leads_seal c.args.config.now c.args.stage.now c.add_made.new.self (party_number c.args.sender) (map party_number c.args.receivers.now) c.args.body.now c.in_ok-bytes.bytes.items
    (λ w. (sym c.is_party.ensures ∙ c.if-not-is_party.false, sym c.is_correct.ensures ∙ c.if-is_correct.false, c.may_receive.ensures.value.0 c.if-not-may_receive.false))
    c.in_ok-bytes.ensures c.in_ok-add_made.ensures.frames

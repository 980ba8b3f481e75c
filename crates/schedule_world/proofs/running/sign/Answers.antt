use Rattle.std.proofs.Common.{◌<◌, map, sym, ◌∙◌, arith}
use Rattle.terms.specs.Parties.{party_number}
use Rattle.schedule_world.proofs.Taking.{leads_sign}
use Rattle.schedule_world.proofs.running.sign.Goals as goal

pub returns-clause-takes : goal.returns-clause-takes
returns-clause-takes c =
    let low : c.args.leaf < 64 = omega arith in
    leads_sign c.args.config.now c.args.stage.now c.add_made.new.self (party_number c.args.signer) c.args.leaf (map party_number c.args.receivers.now) c.args.body.now c.in_ok-bytes.bytes.items
    (λ w. (sym c.is_replica.ensures ∙ c.if-not-is_replica.false, sym c.is_correct.ensures ∙ c.if-is_correct.false, low, c.may_receive.ensures.value.0 c.if-not-may_receive.false))
    c.in_ok-bytes.ensures c.in_ok-add_made.ensures.frames

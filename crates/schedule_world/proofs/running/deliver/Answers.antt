use Rattle.std.proofs.Common.{refl, sym, ◌∙◌}
use Rattle.std.proofs.lemmas.Bool.{both_ways}
use Rattle.terms.specs.Parties.{party_number}
use Rattle.schedule_world.proofs.Taking.{leads_delivery, frame_may_not, party_may_not}
use Rattle.schedule_world.proofs.running.deliver.Goals as goal
use Rattle.schedule_world.proofs.running.deliver.Goals.{then-not-has_frame-via-then-not-has_frame, then-not-has_frame-via-else-not-has_frame+then-not-is_correct}

pub returns-then-not-has_frame-clause-takes : goal.returns-then-not-has_frame-clause-takes
returns-then-not-has_frame-clause-takes c = elim c.then-not-has_frame.branch [
  | then-not-has_frame-via-then-not-has_frame w ↦
      (refl, λ v st may. frame_may_not c.args.config.now c.args.stage.now v c.args.frame (λ lt. both_ways c.has_frame.result w.if-not-has_frame.true (c.has_frame.ensures.made.1 lt)) st may.0)
  | then-not-has_frame-via-else-not-has_frame+then-not-is_correct w ↦
      (refl, λ v st may. party_may_not c.args.config.now (party_number c.args.party) (sym w.is_correct.ensures ∙ w.if-not-is_correct.true) may.1)
]

pub returns-clause-takes : goal.returns-clause-takes
returns-clause-takes c =
    leads_delivery c.args.config.now c.args.stage.now c.deliver.new.self c.args.frame (party_number c.args.party) (sym c.is_correct.ensures ∙ c.if-not-is_correct.false) c.in_ok-deliver.ensures.delivers

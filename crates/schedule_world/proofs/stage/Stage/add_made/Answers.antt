use Rattle.std.proofs.Common.{map, refl, ap, ◌∙◌}
use Rattle.terms.specs.Parties.{party_number}
use Rattle.schedule_world.specs.Pooled.{added}
use Rattle.schedule_world.proofs.Standing.{stands_frame}
use Rattle.schedule_world.proofs.stage.Stage.add_made.Goals as goal

pub returns-clause-frames : goal.returns-clause-frames
returns-clause-frames c =
    stands_frame c.args.config.now c.args.bytes.items (map party_number c.args.receivers.now) (map party_number c.in_ok-waiting.waiting.items) c.args.self.now _
    c.in_ok-waiting.ensures (c.in_ok-add.ensures.ok ∙ ap (λ b. added c.args.self.now.pool b (map party_number c.in_ok-waiting.waiting.items)) c.in_ok-new.ensures) refl refl refl refl

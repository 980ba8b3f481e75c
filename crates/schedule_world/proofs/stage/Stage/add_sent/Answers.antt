use Rattle.std.proofs.Common.{[], ◌∷◌, ◌++◌, map, refl, ap, ◌∙◌}
use Rattle.std.specs.Prelude.{filter}
use Rattle.terms.specs.Parties.{party_number}
use Rattle.protocol.specs.System.Configuration.{is_correct}
use Rattle.schedule_world.specs.Pooled.{added}
use Rattle.schedule_world.proofs.Showing.{adds_sent}
use Rattle.schedule_world.proofs.stage.Stage.add_sent.Goals as goal

pub returns-clause-adds : goal.returns-clause-adds
returns-clause-adds c meant =
    adds_sent c.args.config.now (party_number c.args.party) c.args.frame (map party_number c.keep_correct.new.parties.items) c.args.self.now _
    (c.keep_correct.ensures ∙ ap (filter (is_correct c.args.config.now)) meant)
    (c.in_ok-push.ensures.items ∙ ap (λ e. c.args.self.now.trace.items ++ e ∷ []) c.new.ensures.says)
    (c.in_ok-add.ensures.ok ∙ ap (λ b. added c.args.self.now.pool b (map party_number c.keep_correct.new.parties.items)) c.in_ok-share.ensures) refl

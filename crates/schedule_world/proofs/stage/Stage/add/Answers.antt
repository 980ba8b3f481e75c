use Rattle.std.proofs.Common.{[], ◌∷◌, ◌++◌, refl, ap, ◌∙◌}
use Rattle.events.specs.EntryView.{entry_of_kind}
use Rattle.schedule_world.proofs.Showing.{adds_plain}
use Rattle.schedule_world.proofs.stage.Stage.add.Goals as goal

pub returns-clause-adds : goal.returns-clause-adds
returns-clause-adds c =
    adds_plain c.args.config.now (entry_of_kind c.args.kind) c.args.self.now _ c.requires.plain
    (c.in_ok-push.ensures.items ∙ ap (λ e. c.args.self.now.trace.items ++ e ∷ []) c.new.ensures.says) refl refl

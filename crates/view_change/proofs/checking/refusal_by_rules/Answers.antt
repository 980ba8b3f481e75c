use Rattle.std.proofs.Common.{refl, ap, ◌∙◌}
use Rattle.wire_format.specs.Views.{new_view_data}
use Rattle.view_change.specs.declared.changes.Sizes.{Sizes}
use Rattle.view_change.specs.ReceivedView.{judging_configuration}
use Rattle.view_change.specs.Refusing.{refusal_over}
use Rattle.view_change.specs.Sets.{changes_by_sender, sized}
use Rattle.view_change.proofs.Deciding.{refused_by_set, refused_unsigned}
use Rattle.view_change.proofs.checking.refusal_by_rules.Goals as goal

pub returns-then-not-branch : goal.returns-then-not-branch
returns-then-not-branch c =
    refused_unsigned (judging_configuration c.args.received.now) (new_view_data c.args.new.now) c.deref.result.now c.args.new.now.changes.items c.deref.ensures.value refl (c.in_ok-open_changes.ensures.some c.if-not-branch.true)

pub returns : goal.returns
returns c =
    c.refusal_over.ensures ∙ ap (λ (sizes : Sizes). refusal_over (sized sizes) (changes_by_sender c.deref-2.result.now) (new_view_data c.args.new.now)) c.sizes.ensures
    ∙ refused_by_set (judging_configuration c.args.received.now) (new_view_data c.args.new.now) c.open_changes.new.changes.items c.deref-2.result.now c.new-set.result.items c.deref.result.now c.args.new.now.changes.items c.in_ok-open_changes.field-0 c.if-not-branch.false
    c.deref-2.ensures.value c.new-set.ensures.items c.deref.ensures.value refl c.in_ok-open_changes.ensures.all

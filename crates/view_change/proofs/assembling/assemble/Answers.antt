use Rattle.std.proofs.Common.{◌≡◌, true, List, ℕ, sym, ap, ap₂, ◌∙◌, subst, rules}
use Rattle.protocol.specs.Replica.Selection.{may_select}
use Rattle.wire_format.specs.Messages.{NewViewData}
use Rattle.wire_format.specs.Spelling.{IsNewView}
use Rattle.view_change.specs.ReceivedView.{judging_configuration}
use Rattle.view_change.specs.Sets.{texts_of}
use Rattle.view_change.proofs.Assembled.{right, said}
use Rattle.view_change.proofs.assembling.assemble.Goals as goal

pub returns-clause-right : goal.returns-clause-right
returns-clause-right c =
    let r = c.args.received.now in
    let s = c.args.selected.now in
    subst (λ (n : NewViewData). may_select (judging_configuration r) n ≡ true)
    (sym (ap₂ (λ (xs ys : List (List ℕ)). let n : NewViewData = record { view = c.args.view.0; changes = xs; start = s.start.0; root = s.root; batches = ys } in n) c.in_ok-changes.ensures.are
    (c.in_ok-batches.ensures ∙ ap texts_of c.deref.ensures.value)))
    (right (judging_configuration r) c.args.view.0 r.held s.start.0 s.root (texts_of s.batches.items) c.in_ok-changes.ensures.set c.requires.meets)

pub returns-clause-said : goal.returns-clause-said
returns-clause-said c =
    let r = c.args.received.now in
    let s = c.args.selected.now in
    subst IsNewView
    (sym (ap₂ (λ (xs ys : List (List ℕ)). let n : NewViewData = record { view = c.args.view.0; changes = xs; start = s.start.0; root = s.root; batches = ys } in n) c.in_ok-changes.ensures.are
    (c.in_ok-batches.ensures ∙ ap texts_of c.deref.ensures.value)))
    (said (judging_configuration r) c.args.view.0 r.held s.start.0 s.root (texts_of s.batches.items) c.in_ok-changes.ensures.set c.requires.meets r.sizes.few r.sizes.short (search rules)
    c.note_digest.ensures c.requires.batches)

use Rattle.std.proofs.Common.{◌≡◌, false, rules, ap, ◌∙◌}
use Rattle.view_change.specs.Sets.{changes_by_sender, texts_of}
use Rattle.orderer.specs.OrdererView.{orderer_data}
use Rattle.orderer.proofs.Batches.{selected_are}
use Rattle.orderer.proofs.EnteringViews.{held_selects, none_selects}
use Rattle.orderer.proofs.orderer.Orderer.selection.Goals as goal

pub returns-clause-selects : goal.returns-clause-selects
returns-clause-selects c = rw (← c.self.view_is)
    (held_selects _ (orderer_data c.self.inside) c.select.result c.sizes.result (changes_by_sender c.deref.result.now) (texts_of c.deref-2.result.now) (search rules) (search rules)
    (search rules) (ap changes_by_sender c.deref.ensures.value ∙ c.in_ok-set.ensures.are) (ap texts_of c.deref-2.ensures.value ∙ c.in_ok-held.ensures.are) c.select.ensures)

pub returns-clause-batches : goal.returns-clause-batches
returns-clause-batches c =
    selected_are (orderer_data c.self.inside) c.select.result c.self.invariant
    (held_selects _ (orderer_data c.self.inside) c.select.result c.sizes.result (changes_by_sender c.deref.result.now) (texts_of c.deref-2.result.now) (search rules) (search rules)
    (search rules) (ap changes_by_sender c.deref.ensures.value ∙ c.in_ok-set.ensures.are) (ap texts_of c.deref-2.ensures.value ∙ c.in_ok-held.ensures.are) c.select.ensures)

pub returns-clause-none : goal.returns-clause-none
returns-clause-none c = rw (← c.self.view_is)
    (none_selects (orderer_data c.self.inside) c.select.result c.sizes.result (changes_by_sender c.deref.result.now) (texts_of c.deref-2.result.now) c.in_ok-held.ensures.named (search rules)
    (ap changes_by_sender c.deref.ensures.value ∙ c.in_ok-set.ensures.are) (ap texts_of c.deref-2.ensures.value ∙ c.in_ok-held.ensures.are) c.select.ensures)

pub returns-then-is_active-clause-none : goal.returns-then-is_active-clause-none
returns-then-is_active-clause-none c = rw (← c.self.view_is)
    (λ off own.
    let inactive : c.is_active.result ≡ false = c.is_active.ensures ∙ off in
    absurd (search rules))

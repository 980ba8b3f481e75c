use Rattle.std.proofs.Common.{◌≡◌, ◌+◌, false, drop, refl, sym, ap, ap₂, ◌∙◌, subst, arith}
use Rattle.std.specs.Arc.{arc_value}
use Rattle.std.proofs.lemmas.Bool.{or_left, or_right, or_from}
use Rattle.std.proofs.lemmas.List.{drop_all}
use Rattle.sha2.specs.Sha256.{sha256}
use Rattle.protocol.specs.Replica.Selection.{may_be_null}
use Rattle.view_change.specs.Selecting.{stands_by_entry, goes_before}
use Rattle.view_change.specs.Sets.{sized, changes_by_sender, texts_of}
use Rattle.view_change.proofs.Chosen.{IsBest, best_begins, best_more, chosen, none_chosen}
use Rattle.view_change.proofs.choosing.choose.Goals as goal
use Rattle.view_change.proofs.choosing.choose.Goals.{then-goes_before, else-goes_before, then-stands, else-stands}

pub loop-batch-init : goal.loop-batch-init
loop-batch-init c = best_begins (sized c.args.sizes) (changes_by_sender c.args.set.now) (texts_of c.args.held.now) c.args.number.0 (arc_value c.args.null.now) c.requires.null

pub loop-batch-preserved : goal.loop-batch-preserved
loop-batch-preserved c =
    let k = sized c.args.sizes in
    let set = changes_by_sender c.args.set.now in
    let held = c.args.held.now in
    let i = c.loop-batch.batch-index in
    let more = best_more k set c.args.number.0 held i c.batch-item.result (arc_value c.loop-batch.best.now) c.goes_before.result c.loop-batch-test.true
    (c.goes_before.ensures ∙ ap₂ (λ d e. goes_before k set c.args.number.0 d e) (c.digest.ensures ∙ ap sha256 (c.deref.ensures ∙ ap arc_value c.batch-item.is)) (c.digest-in-loop-batch.ensures ∙ ap sha256 c.deref-in-loop-batch.ensures))
    c.loop-batch.invariant in
    elim c.if-goes_before.branch [
      | then-goes_before w ↦
          rw w.best-is (subst (λ b. IsBest k set (texts_of held) c.args.number.0 (texts_of (drop (i + 1) held)) (arc_value b)) (sym c.batch-item.is) (more.0 w.if-goes_before.true))
      | else-goes_before w ↦ rw w.best-is (more.1 w.if-goes_before.false)
    ]

pub returns-then-may_be_null-clause-some : goal.returns-then-may_be_null-clause-some
returns-then-may_be_null-clause-some c =
    let k = sized c.args.sizes in
    let set = changes_by_sender c.args.set.now in
    let n = c.args.number.0 in
    let best = arc_value c.loop-batch.best.now in
    let done = subst (λ rest. IsBest k set (texts_of c.args.held.now) n rest best) (ap texts_of (drop_all c.loop-batch.batch-index c.args.held.now (omega arith))) c.loop-batch.invariant in
    let is = c.stands.ensures ∙ ap (λ d. stands_by_entry k set n d set) (c.digest-2.ensures ∙ ap sha256 c.deref-2.ensures) in
    elim c.if-stands.branch [
      | then-stands w ↦ chosen k c.args.view.0 n set (texts_of c.args.held.now) best c.stands.result (may_be_null k set n) c.requires.set done is refl (or_left c.stands.result (may_be_null k set n) w.if-stands.true)
      | else-stands w ↦
          chosen k c.args.view.0 n set (texts_of c.args.held.now) best c.stands.result (may_be_null k set n) c.requires.set done is refl
          (or_right c.stands.result (may_be_null k set n) (sym w.may_be_null.ensures ∙ sym w.value-is ∙ c.if-may_be_null.true))
    ]

pub returns-else-may_be_null-clause-none : goal.returns-else-may_be_null-clause-none
returns-else-may_be_null-clause-none c =
    let k = sized c.args.sizes in
    let set = changes_by_sender c.args.set.now in
    let n = c.args.number.0 in
    let best = arc_value c.loop-batch.best.now in
    let done = subst (λ rest. IsBest k set (texts_of c.args.held.now) n rest best) (ap texts_of (drop_all c.loop-batch.batch-index c.args.held.now (omega arith))) c.loop-batch.invariant in
    let is = c.stands.ensures ∙ ap (λ d. stands_by_entry k set n d set) (c.digest-2.ensures ∙ ap sha256 c.deref-2.ensures) in
    elim c.if-stands.branch [
      | then-stands w ↦ absurd (let t = w.if-stands.true in let f : c.stands.result ≡ false = sym w.value-is ∙ c.if-may_be_null.false in cc)
      | else-stands w ↦
          none_chosen k c.args.view.0 n set (texts_of c.args.held.now) best c.stands.result (may_be_null k set n) c.requires.set done is refl
          (or_from c.stands.result (may_be_null k set n) w.if-stands.false (sym w.may_be_null.ensures ∙ sym w.value-is ∙ c.if-may_be_null.false))
    ]

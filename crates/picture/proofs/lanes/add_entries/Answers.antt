use Rattle.std.proofs.Common.{sym, ap, subst, ◌∙◌, refl}
use Rattle.std.proofs.lemmas.Option.{slice_get_read}
use Rattle.protocol.specs.System.Trace.{party_of}
use Rattle.picture.specs.Lanes.{AddsOnly, HasEntry}
use Rattle.picture.proofs.Taking.{one_added}
use Rattle.picture.proofs.lanes.add_entries.Goals as goal
use Rattle.picture.proofs.lanes.add_entries.Goals.{then-has+in_ok-push, else-has}

pub loop-position-preserved : goal.loop-position-preserved
loop-position-preserved c = elim c.if-has.branch [
  | then-has+in_ok-push w ↦
      one_added (HasEntry c.args.rows c.args.trace.now) c.args.numbers.now.items c.loop-position.numbers.items c.if-has.numbers.items w.number.result c.loop-position.invariant
      (c.loop-position.position, c.index-trace-position.result, sym c.has.ensures ∙ w.if-has.true, slice_get_read c.args.trace.now _ c.loop-position.position c.index-trace-position.result refl c.loop-position-test.true c.index-trace-position.is, sym (w.number.ensures ∙ w.party.ensures ∙ ap party_of w.kind.ensures.says))
      (ap (λ v. v.items) w.numbers-is ∙ w.in_ok-push.ensures.items)
  | else-has w ↦ subst (λ v. AddsOnly (HasEntry c.args.rows c.args.trace.now) c.args.numbers.now.items v.items) (sym w.numbers-is) c.loop-position.invariant
]

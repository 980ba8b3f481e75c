use Rattle.std.proofs.Common.{◌≡◌, ◌+◌, ◌*◌, max, sym, ap, ◌∙◌, subst, arith}
use Rattle.std.specs.Arc.{arc_value}
use Rattle.protocol.specs.Replica.Selection.{largest_of}
use Rattle.view_change.specs.Sets.{sized, changes_by_sender, texts_of}
use Rattle.view_change.proofs.Chosen.{FillsTo, fills_more, gap, texts_more}
use Rattle.view_change.proofs.selecting.fill.Goals as goal
use Rattle.view_change.proofs.selecting.fill.Goals.{then-largest-start, else-largest-start}

pub returns-in_default : goal.returns-in_default
returns-in_default c =
    let is : c.largest_of-largest.result ≡ largest_of (c.args.start.0 + 2 * c.args.sizes.period) (changes_by_sender c.args.set.now) =
    c.largest_of-largest.ensures ∙ ap (λ p. largest_of (c.args.start.0 + 2 * p) (changes_by_sender c.args.set.now)) c.from.ensures in
    let end_is : c.if-largest-start.end ≡ max c.largest_of-largest.result c.args.start.0 = elim c.if-largest-start.branch [
      | then-largest-start w ↦ (let e = w.end-is in let t = w.if-largest-start.true in omega arith)
      | else-largest-start w ↦ (let e = w.end-is in let t = w.if-largest-start.false in omega arith)
    ] in
    let less = c.loop-number-test.true in
    let from = c.loop-number.auto.number in
    λ root batches are. gap (sized c.args.sizes) c.args.view.0 (changes_by_sender c.args.set.now) (texts_of c.args.held.now) c.args.start.0 c.loop-number.number root from (omega arith) c.in_default.ensures.none batches are

pub loop-number-preserved : goal.loop-number-preserved
loop-number-preserved c =
    let texts = texts_more c.loop-number.batches.items c.push.new.self.items c.in_ok-try_clone.field-0 (arc_value c.in-Some.batch.now) c.in_ok-push.ensures.items c.in_ok-try_clone.ensures in
    subst (λ ts. FillsTo (sized c.args.sizes) c.args.view.0 (changes_by_sender c.args.set.now) (texts_of c.args.held.now) c.args.start.0 (c.loop-number.number + 1) ts) (sym texts)
    (fills_more (sized c.args.sizes) c.args.view.0 (changes_by_sender c.args.set.now) (texts_of c.args.held.now) c.args.start.0 c.loop-number.number (texts_of c.loop-number.batches.items) (arc_value c.in-Some.batch.now)
    c.loop-number.invariant c.in-Some.ensures.some)

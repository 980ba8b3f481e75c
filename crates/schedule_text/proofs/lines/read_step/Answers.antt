use Rattle.std.proofs.Common.{◌≡◌, length, inl, sym, ap, ◌∙◌, subst, arith}
use Rattle.std.proofs.lemmas.Bool.{iff_false}
use Rattle.std.proofs.lemmas.Result.{err_from_is_err_and}
use Rattle.schedule_text.specs.Words.{trimmed}
use Rattle.schedule_text.specs.Reading.{IsFirstWord}
use Rattle.schedule_text.specs.StepView.{step_of}
use Rattle.schedule_text.proofs.Pieces.{first_of_trimmed, trimmed_twice}
use Rattle.schedule_text.proofs.Skips.{trimmed_blanks, not_skipped, refuses, reads, too_long, not_blank}
use Rattle.schedule_text.proofs.lines.read_step.Goals as goal

pub returns-then-rest-gt-MAX_STEP-clause-answer : goal.returns-then-rest-gt-MAX_STEP-clause-answer
returns-then-rest-gt-MAX_STEP-clause-answer c =
    let same : length c.rest.result.now ≡ length (trimmed c.args.line.now) = ap length (c.rest.ensures ∙ c.new-words.ensures) in
    too_long c.args.line.now (iff_false c.is_comment.ensures c.if-is_comment.false) (omega (arith, same))

pub returns-then-rest-gt-MAX_STEP-clause-skipped : goal.returns-then-rest-gt-MAX_STEP-clause-skipped
returns-then-rest-gt-MAX_STEP-clause-skipped c h =
    let same : length c.rest.result.now ≡ length (trimmed c.args.line.now) = ap length (c.rest.ensures ∙ c.new-words.ensures) in
    absurd (not_blank c.args.line.now (iff_false c.is_comment.ensures c.if-is_comment.false) (omega (arith, same)) h)

pub returns-in_ok-read_named-in-Some-clause-answer : goal.returns-in_ok-read_named-in-Some-clause-answer
returns-in_ok-read_named-in-Some-clause-answer c =
    let same : length c.rest.result.now ≡ length (trimmed c.args.line.now) = ap length (c.rest.ensures ∙ c.new-words.ensures) in
    let first = first_of_trimmed c.args.line.now c.in-Some.name.text.now c.next.new.self.rest.now (subst (λ line. IsFirstWord line c.in-Some.name.text.now c.next.new.self.rest.now) c.new-words.ensures (c.in-Some.ensures {u = tt})) in
    reads c.args.line.now c.in-Some.name.text.now c.next.new.self.rest.now (step_of c.in_ok-read_named-in-Some.field-0) first (omega (arith, same)) (c.in_ok-read_named-in-Some.ensures {u = tt})

pub returns-in_err-read_named-in-Some-clause-answer : goal.returns-in_err-read_named-in-Some-clause-answer
returns-in_err-read_named-in-Some-clause-answer c =
    let p = err_from_is_err_and c.from_residual.result c.from_residual.ensures.1 in
    let first = first_of_trimmed c.args.line.now c.in-Some.name.text.now c.next.new.self.rest.now (subst (λ line. IsFirstWord line c.in-Some.name.text.now c.next.new.self.rest.now) c.new-words.ensures (c.in-Some.ensures {u = tt})) in
    rw (p.1, p.2) (refuses c.args.line.now c.in-Some.name.text.now c.next.new.self.rest.now first (iff_false c.is_comment.ensures c.if-is_comment.false) c.in_err-read_named-in-Some.field-0.0 (c.in_err-read_named-in-Some.ensures {u = tt}))

pub returns-in_err-read_named-in-Some-clause-skipped : goal.returns-in_err-read_named-in-Some-clause-skipped
returns-in_err-read_named-in-Some-clause-skipped c h =
    let first = first_of_trimmed c.args.line.now c.in-Some.name.text.now c.next.new.self.rest.now (subst (λ line. IsFirstWord line c.in-Some.name.text.now c.next.new.self.rest.now) c.new-words.ensures (c.in-Some.ensures {u = tt})) in
    absurd (not_skipped c.args.line.now c.in-Some.name.text.now c.next.new.self.rest.now first (iff_false c.is_comment.ensures c.if-is_comment.false) h)

pub returns-in-None-clause-answer : goal.returns-in-None-clause-answer
returns-in-None-clause-answer c = inl (trimmed_blanks c.args.line.now (sym (trimmed_twice c.args.line.now) ∙ ap trimmed (sym c.new-words.ensures) ∙ c.in-None.ensures {u = tt}))

pub returns-in_ok-read_named-in-Some-clause-skipped : goal.returns-in_ok-read_named-in-Some-clause-skipped
returns-in_ok-read_named-in-Some-clause-skipped c h =
    let first = first_of_trimmed c.args.line.now c.in-Some.name.text.now c.next.new.self.rest.now (subst (λ line. IsFirstWord line c.in-Some.name.text.now c.next.new.self.rest.now) c.new-words.ensures (c.in-Some.ensures {u = tt})) in
    absurd (not_skipped c.args.line.now c.in-Some.name.text.now c.next.new.self.rest.now first (iff_false c.is_comment.ensures c.if-is_comment.false) h)

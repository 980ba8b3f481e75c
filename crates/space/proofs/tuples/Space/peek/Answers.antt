use Rattle.std.proofs.Common.{◌≡◌, sym, ◌∙◌}
use Rattle.std.proofs.lemmas.Result.{IfOk-weaker}
use Rattle.tuple_codec.specs.OperationView.{operation_of, outcome_of}
use Rattle.space.specs.Applying.{outcome, served_outcome}
use Rattle.space.specs.Births.{tuples_of}
use Rattle.space.proofs.Versions.{refused_outcome, unknown_refused, answers_served, read_refused, wants_served}
use Rattle.space.proofs.tuples.Space.peek.Goals as goal

pub returns-then-is_unknown-clause-answer : goal.returns-then-is_unknown-clause-answer
returns-then-is_unknown-clause-answer g c client =
    let s = c.args.self.now in
    let o = operation_of c.args.op.now in
    refused_outcome s client o (unknown_refused s client o (sym c.is_unknown.ensures ∙ c.if-is_unknown.true))

pub returns-clause-answer : goal.returns-clause-answer
returns-clause-answer g c client =
    let s = c.args.self.now in
    let o = operation_of c.args.op.now in
    let reads = sym c.is_read.ensures ∙ c.if-not-is_read.false in
    let known = sym c.is_unknown.ensures ∙ c.if-is_unknown.false in
    IfOk-weaker c.serve_read.result (λ a. outcome_of a ≡ served_outcome (tuples_of s) o) (λ a. outcome_of a ≡ outcome (tuples_of s) client o)
    (λ a e. e ∙ answers_served s client o (read_refused s.version client o reads ∙ known)) c.serve_read.ensures.answer

pub returns-clause-memory : goal.returns-clause-memory
returns-clause-memory g c lacks =
    wants_served c.args.self.now (operation_of c.args.op.now) (sym c.is_unknown.ensures ∙ c.if-is_unknown.false) ∙ c.serve_read.ensures.memory lacks

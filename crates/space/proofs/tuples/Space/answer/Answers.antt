use Rattle.std.proofs.Common.{◌≡◌, sym, ◌∙◌}
use Rattle.std.proofs.lemmas.Result.{IfOk-weaker, on_ok_weaker, on_err_weaker}
use Rattle.tuple_codec.specs.OperationView.{operation_of, outcome_of}
use Rattle.space.specs.Applying.{outcome, served_outcome}
use Rattle.space.specs.Births.{tuples_of}
use Rattle.space.proofs.Versions.{refused_outcome, state_stays, answers_served, follows_served, known, wants_served}
use Rattle.space.proofs.tuples.Space.answer.Goals as goal

pub returns-then-is_refused-clause-answer : goal.returns-then-is_refused-clause-answer
returns-then-is_refused-clause-answer g c = refused_outcome c.args.self.now c.args.client (operation_of c.args.op.now) (sym c.is_refused.ensures ∙ c.if-is_refused.true)

pub returns-then-is_refused-clause-state : goal.returns-then-is_refused-clause-state
returns-then-is_refused-clause-state g c = state_stays c.args.self.now c.args.client (operation_of c.args.op.now) (sym c.is_refused.ensures ∙ c.if-is_refused.true)

pub returns-clause-answer : goal.returns-clause-answer
returns-clause-answer g c =
    let o = operation_of c.args.op.now in
    IfOk-weaker c.serve.result (λ a. outcome_of a ≡ served_outcome (tuples_of c.args.self.now) o) (λ a. outcome_of a ≡ outcome (tuples_of c.args.self.now) c.args.client o)
    (λ a e. e ∙ answers_served c.args.self.now c.args.client o (sym c.is_refused.ensures ∙ c.if-is_refused.false)) c.serve.ensures.answer

pub returns-clause-state : goal.returns-clause-state
returns-clause-state g c =
    on_ok_weaker c.serve.result (λ e. e ∙ follows_served c.args.self.now c.args.client (operation_of c.args.op.now) (sym c.is_refused.ensures ∙ c.if-is_refused.false)) c.serve.ensures.state

pub returns-clause-memory : goal.returns-clause-memory
returns-clause-memory g c =
    on_err_weaker c.serve.result (λ e. wants_served c.args.self.now (operation_of c.args.op.now) (known c.args.self.now c.args.client (operation_of c.args.op.now) (sym c.is_refused.ensures ∙ c.if-is_refused.false)) ∙ e) c.serve.ensures.memory

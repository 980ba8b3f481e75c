use Rattle.std.proofs.Common.{rules, Ok, Err, arith, refl, ap, subst, ◌∙◌}
use Rattle.tuple_codec.specs.OperationView.{operation_of}
use Rattle.tuple_text.specs.Judged.{JudgesLine}
use Rattle.one_space.specs.Moments.{left_of}
use Rattle.one_space.proofs.RunLemmas.{breaks_here, on_ok, passes_line, runs_line, skips_line}
use Rattle.one_space.proofs.session.Session.answer_whole.Goals as goal

pub returns-in-Ok-Some-clause-along : goal.returns-in-Ok-Some-clause-along
returns-in-Ok-Some-clause-along g c unread rest there first bytes start here =
    runs_line c.args.turn first bytes start unread rest _ c.args.self.now.space c.args.self.now.held c.requires.early here c.args.line.now there (operation_of c.in-Ok-Some.op)
    c.run_op.new.self.space c.run_op.new.self.held c.run_op.result
    (subst (λ r. JudgesLine c.args.line.now r) (c.in-Ok-Some.is ∙ ap (λ f. Ok f) c.in-Ok-Some.field-0-is) c.read_line.ensures.answer)
    (rw c.in-Ok-Some.field-0-is at c.run_op.ensures.runs)

pub returns-in-Ok-None-clause-along : goal.returns-in-Ok-None-clause-along
returns-in-Ok-None-clause-along g c unread rest there first bytes start here =
    skips_line c.args.turn first bytes start unread rest _ c.args.self.now.space c.args.self.now.held c.requires.early here c.args.line.now there
    (subst (λ r. JudgesLine c.args.line.now r) (c.in-Ok-None.is ∙ ap (λ f. Ok f) c.in-Ok-None.field-0-is) c.read_line.ensures.answer)

pub returns-in-Err-NoMemory-clause-along : goal.returns-in-Err-NoMemory-clause-along
returns-in-Err-NoMemory-clause-along g c unread rest there first bytes start here =
    breaks_here c.args.turn.manner first bytes start c.args.turn.number unread _ (left_of c.args.self.now) here _ refl

pub returns-in-Err : goal.returns-in-Err
returns-in-Err g c = record {
  births = on_ok c.pass.result (omega arith);
  along = λ unread rest there first bytes start here.
      passes_line c.args.turn first bytes start unread rest _ c.args.self.now.space c.args.self.now.held c.requires.early here c.args.line.now there c.in-Err.fault _ _ c.pass.result
      (search rules) (subst (λ r. JudgesLine c.args.line.now r) c.in-Err.is c.read_line.ensures.answer) c.pass.ensures;
}

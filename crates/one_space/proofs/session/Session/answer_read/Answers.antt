use Rattle.std.proofs.Common.{refl}
use Rattle.one_space.proofs.RunLemmas.{comes_of, ends, fails_line, runs_on, skips_on}
use Rattle.one_space.proofs.session.Session.answer_read.Goals as goal

pub returns-in-Ok-End-clause-along : goal.returns-in-Ok-End-clause-along
returns-in-Ok-End-clause-along g c first bytes start here =
    ends _ first bytes start _ _ _ _ c.args.self.now.space c.args.self.now.held here _ c.next_line.result c.next_line.ensures c.in-Ok-End.field-0 c.in-Ok-End.is c.in-Ok-End.field-0-is

pub returns-in-Ok-Skipped-clause-along : goal.returns-in-Ok-Skipped-clause-along
returns-in-Ok-Skipped-clause-along g c first bytes start here =
    skips_on _ first bytes start _ _ _ _ c.args.self.now.space c.args.self.now.held here _ c.next_line.result c.next_line.ensures c.in-Ok-Skipped.field-0 c.requires.early c.in-Ok-Skipped.is
    c.in-Ok-Skipped.field-0-is

pub returns-in-Ok-Operation-clause-along : goal.returns-in-Ok-Operation-clause-along
returns-in-Ok-Operation-clause-along g c first bytes start here =
    runs_on _ first bytes start _ _ _ _ c.args.self.now.space c.args.self.now.held here _ c.next_line.result c.next_line.ensures c.in-Ok-Operation.field-0 c.in-Ok-Operation.op
    c.run_op.new.self.space c.run_op.new.self.held c.run_op.result c.requires.early c.in-Ok-Operation.is c.in-Ok-Operation.field-0-is
    (rw c.in-Ok-Operation.field-0-is at c.run_op.ensures.runs)

pub returns-in-Err-clause-along : goal.returns-in-Err-clause-along
returns-in-Err-clause-along g c first bytes start here =
    comes_of _ first bytes start _ _ _ _ _ c.args.self.now.space c.args.self.now.held _ c.requires.early here _ c.in-Err.no c.pass_read.result
    (fails_line _ first bytes start _ _ _ _ c.args.self.now.space c.args.self.now.held here _ c.next_line.result c.next_line.ensures c.in-Err.no c.in-Err.no c.in-Err.is refl)
    (rw c.as_slice-line.ensures.value at c.pass_read.ensures)

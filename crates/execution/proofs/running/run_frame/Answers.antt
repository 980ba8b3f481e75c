use Rattle.tuple_codec.specs.OperationView.{operation_of}
use Rattle.execution.proofs.Leading.{births_after}
use Rattle.execution.proofs.running.run_frame.Goals as goal

pub returns-in_err-kept-clause-births : goal.returns-in_err-kept-clause-births
returns-in_err-kept-clause-births c = births_after c.args.space.now.state c.apply.new.self.state c.in-Some.call.client.number (operation_of c.in-Some.call.op) c.in_ok-answer.ensures.state

pub returns-in_err-put-clause-births : goal.returns-in_err-put-clause-births
returns-in_err-put-clause-births c = births_after c.args.space.now.state c.apply.new.self.state c.in-Some.call.client.number (operation_of c.in-Some.call.op) c.in_ok-answer.ensures.state

pub returns-in_err-push-clause-births : goal.returns-in_err-push-clause-births
returns-in_err-push-clause-births c = births_after c.args.space.now.state c.apply.new.self.state c.in-Some.call.client.number (operation_of c.in-Some.call.op) c.in_ok-answer.ensures.state

pub returns-clause-births : goal.returns-clause-births
returns-clause-births c = births_after c.args.space.now.state c.apply.new.self.state c.in-Some.call.client.number (operation_of c.in-Some.call.op) c.in_ok-answer.ensures.state

use Rattle.std.proofs.Common.{rules}
use Rattle.std.proofs.lemmas.Result.{IfOk-weaker, on_err_weaker}
use Rattle.tuple_codec.specs.OperationView.{operation_of, outcome_of}
use Rattle.space_node.specs.Calls.{CallBegins, Called, CallEnds}
use Rattle.space_node.proofs.Calling.{called, refused_call}
use Rattle.space_node.proofs.handle.ClientHandle.answer.Goals as goal

pub returns-clause-called : goal.returns-clause-called
returns-clause-called g c =
    let a = c.args.self.now in
    let b = c.invoke.new.self in
    let d = c.wait_answer.new.state in
    let first : CallBegins a (operation_of c.args.op) b = search rules in
    IfOk-weaker c.wait_answer.result (λ x. CallEnds b (outcome_of x) d) (λ x. Called a (operation_of c.args.op) (outcome_of x) d)
    (λ x last. called a b d (operation_of c.args.op) (outcome_of x) first last) c.wait_answer.ensures.ends

pub returns-clause-refused : goal.returns-clause-refused
returns-clause-refused g c =
    let a = c.args.self.now in
    let b = c.invoke.new.self in
    let d = c.wait_answer.new.state in
    let first : CallBegins a (operation_of c.args.op) b = search rules in
    on_err_weaker c.wait_answer.result (λ next. refused_call a b d (operation_of c.args.op) first next) c.wait_answer.ensures.refused

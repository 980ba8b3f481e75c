use Rattle.std.proofs.Common.{rules}
use Rattle.tuple_codec.specs.OperationView.{outcome_of}
use Rattle.space_node.specs.Calls.{CallEnds}
use Rattle.space_node.proofs.Calling.{ends_later}
use Rattle.space_node.proofs.handle.wait_answer.Goals as goal

pub returns-in-Answered-clause-ends : goal.returns-in-Answered-clause-ends
returns-in-Answered-clause-ends g c =
    let last : CallEnds c.loop.state (outcome_of c.in-Answered.answer) c.take-in-loop.new.self = search rules in
    ends_later c.args.state.now c.loop.state c.take-in-loop.new.self (outcome_of c.in-Answered.answer) c.loop.invariant.2 last

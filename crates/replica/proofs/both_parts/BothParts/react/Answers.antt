use Rattle.replica.specs.Inputs.{input_of}
use Rattle.replica.specs.BothParts.{me_of}
use Rattle.replica.proofs.Reacting.{has_input, leads_on}
use Rattle.replica.proofs.both_parts.BothParts.react.Goals as goal

pub returns-clause-leads : goal.returns-clause-leads
returns-clause-leads c = leads_on (input_of (me_of c.args.self.now) c.args.event) c.args.self.now c.are_one.ensures (has_input (me_of c.args.self.now) c.args.event)
    c.in_ok-due_work.due_work c.begin.new.self c.finish_event.new.self c.begin.new.outputs.items c.finish_event.new.outputs.items
    c.in_ok-due_work.ensures.ok c.in_ok-finish_event.ensures.ok

use Rattle.std.proofs.Common.{List, subst}
use Rattle.events.specs.declared.output.Output.{Output}
use Rattle.replica.specs.State.{BothPartsData}
use Rattle.desk.specs.Fetching.{SendsPart}
use Rattle.replica.proofs.Answering.{answers}
use Rattle.replica.proofs.both_parts.BothParts.on_fetch.Goals as goal

pub returns-clause-ok : goal.returns-clause-ok
returns-clause-ok c bytes h = rw (c.in_ok-send_part.ensures.same, c.self.view_is)
    (answers c.args.self.now c.are_one.ensures c.args.sender c.args.message.now bytes c.send_part.new.outputs.items h
    (subst (λ (os : List Output). SendsPart c.args.self.now.desk c.args.sender c.args.message.now os c.send_part.new.outputs.items) c.requires.first
    (subst (λ (r : BothPartsData). SendsPart r.desk c.args.sender c.args.message.now c.args.outputs.now.items c.send_part.new.outputs.items) c.self.view_is c.in_ok-send_part.ensures.ok)))

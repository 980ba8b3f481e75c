use Rattle.std.proofs.Common.{arith}
use Rattle.journal.proofs.Openings.{marked_more, all_marked}
use Rattle.journal.proofs.carrying.faulty_marks.Goals as goal

pub loop-party-preserved : goal.loop-party-preserved
loop-party-preserved c =
    marked_more c.args.config.now c.loop-party.party c.loop-party.marks.items c.push.new.self.items c.is_faulty.result c.is_faulty.ensures c.in_ok-push.ensures.items c.loop-party.invariant

pub returns : goal.returns
returns c =
    all_marked c.args.config.now c.loop-party.party c.loop-party.marks.items c.clients-party-end.ensures.valid (omega (arith, c.loop-party-test.false, c.clients-party-end.ensures.value)) c.loop-party.invariant

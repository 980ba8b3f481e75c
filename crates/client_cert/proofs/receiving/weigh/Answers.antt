use Rattle.std.proofs.Common.{[], ◌+◌}
use Rattle.signing.specs.Publics.{knows}
use Rattle.client_cert.specs.State.Turn.{waits, asks_ordered}
use Rattle.client_cert.proofs.Stepping.{weigh_accepts, weigh_none, weigh_reply}
use Rattle.client_cert.proofs.receiving.weigh.Goals as goal

-- whichever public keys are known, the text spells the same answer
pub answer_in-requires : goal.answer_in-requires
answer_in-requires c = let receives = rw c.in-Some.is at (c.authenticate_reply.ensures.receives []) in (receives.answer, receives.spelled)

pub returns-in-None-clause-weighs : goal.returns-in-None-clause-weighs
returns-in-None-clause-weighs c publics = weigh_none (knows c.args.ring.now publics) (256 + c.args.client.number) c.args.timestamp.0 c.args.call.now c.args.bytes.now (rw c.in-None.is at (c.authenticate_reply.ensures.receives publics))

pub returns-in_ok-answer_in-in-Accept-clause-weighs : goal.returns-in_ok-answer_in-in-Accept-clause-weighs
returns-in_ok-answer_in-in-Accept-clause-weighs c publics =
    weigh_accepts (knows c.args.ring.now publics) (256 + c.args.client.number) c.args.timestamp.0 c.args.faults c.args.call.now c.note.new.self c.args.bytes.now c.in-Some.authentic
    c.in_ok-ballot-in-Some.ballot
    (rw c.in-Some.is at (c.authenticate_reply.ensures.receives publics)) c.requires.faults c.in_ok-ballot-in-Some.ensures
    c.in_ok-note-in-Some.ensures.taken c.in-Accept.ensures.turn c.in_ok-answer_in-in-Accept.field-0 c.in_ok-answer_in-in-Accept.ensures

pub returns-in-AskOrdered-clause-weighs : goal.returns-in-AskOrdered-clause-weighs
returns-in-AskOrdered-clause-weighs c publics =
    weigh_reply (knows c.args.ring.now publics) (256 + c.args.client.number) c.args.timestamp.0 c.args.faults c.args.call.now c.note.new.self c.args.bytes.now c.in-Some.authentic
    c.in_ok-ballot-in-Some.ballot asks_ordered
    (rw c.in-Some.is at (c.authenticate_reply.ensures.receives publics)) c.requires.faults c.in_ok-ballot-in-Some.ensures
    c.in_ok-note-in-Some.ensures.taken c.in-AskOrdered.ensures.turn

pub returns-in-Wait-clause-weighs : goal.returns-in-Wait-clause-weighs
returns-in-Wait-clause-weighs c publics =
    weigh_reply (knows c.args.ring.now publics) (256 + c.args.client.number) c.args.timestamp.0 c.args.faults c.args.call.now c.note.new.self c.args.bytes.now c.in-Some.authentic
    c.in_ok-ballot-in-Some.ballot waits
    (rw c.in-Some.is at (c.authenticate_reply.ensures.receives publics)) c.requires.faults c.in_ok-ballot-in-Some.ensures
    c.in_ok-note-in-Some.ensures.taken c.in-Wait.ensures.turn

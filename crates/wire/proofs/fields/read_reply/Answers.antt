use Rattle.wire.proofs.Steps.{reply_there}
use Rattle.wire.proofs.fields.read_reply.Goals as goal

pub returns : goal.returns
returns c =
    reply_there c.args.bytes.now c.in-Some.rest.now c.in-Some-read_u64.rest.now c.in-Some-read_mode.rest.now c.in-Some-read_u64-2.rest.now c.in_ok-answer.rest.now _ _ _ _ _
    c.in-Some.ensures c.in-Some-read_u64.ensures c.in-Some-read_mode.ensures c.in-Some-read_u64-2.ensures c.in_ok-answer.ensures

use Rattle.std.proofs.Common.{arith}
use Rattle.wire.proofs.InPlace.{reply_no_client, reply_no_time, reply_no_mode, reply_no_number, reply_whole}
use Rattle.wire.proofs.judging.is_reply.Goals as goal

pub returns-in_default : goal.returns-in_default
returns-in_default c = reply_no_client c.args.fields.now c.in_default.ensures

pub returns-in_default-read_u64 : goal.returns-in_default-read_u64
returns-in_default-read_u64 c = reply_no_time c.args.fields.now c.in-Some.rest.now _ c.in-Some.ensures c.in_default-read_u64.ensures

pub returns-in_default-read_mode : goal.returns-in_default-read_mode
returns-in_default-read_mode c =
    reply_no_mode c.args.fields.now c.in-Some.rest.now _ c.in-Some.ensures c.in-Some-read_u64.rest.now _ c.in-Some-read_u64.ensures c.in_default-read_mode.ensures

pub returns-in-Some-read_u64-2 : goal.returns-in-Some-read_u64-2
returns-in-Some-read_u64-2 c =
    reply_whole c.args.fields.now c.in-Some.rest.now _ c.in-Some.ensures c.in-Some-read_u64.rest.now _ c.in-Some-read_u64.ensures
    c.in-Some-read_mode.rest.now _ c.in-Some-read_mode.ensures (λ i. omega (arith, c.type_inv.fields i)) c.in-Some-read_u64-2.answer.now _ c.is_result.result c.in-Some-read_u64-2.ensures c.is_result.ensures

pub returns-in-None : goal.returns-in-None
returns-in-None c =
    reply_no_number c.args.fields.now c.in-Some.rest.now _ c.in-Some.ensures c.in-Some-read_u64.rest.now _ c.in-Some-read_u64.ensures
    c.in-Some-read_mode.rest.now _ c.in-Some-read_mode.ensures c.in-None.ensures

use Rattle.std.proofs.Common.{arith}
use Rattle.wire.proofs.InPlace.{request_no_time, request_no_mode, request_whole}
use Rattle.wire.proofs.judging.is_request.Goals as goal

pub returns-in_default : goal.returns-in_default
returns-in_default c = request_no_time c.args.fields.now c.in_default.ensures

pub returns-in-Some-read_mode : goal.returns-in-Some-read_mode
returns-in-Some-read_mode c =
    request_whole c.args.fields.now c.in-Some.rest.now c.in-Some-read_mode.op.now _ _ c.is_op.result (λ i. omega (arith, c.type_inv.fields i)) c.in-Some.ensures
    c.in-Some-read_mode.ensures c.is_op.ensures

pub returns-in-None : goal.returns-in-None
returns-in-None c = request_no_mode c.args.fields.now c.in-Some.rest.now _ c.in-Some.ensures c.in-None.ensures

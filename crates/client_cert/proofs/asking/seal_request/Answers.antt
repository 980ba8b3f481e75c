use Rattle.std.proofs.Common.{◌+◌, arith}
use Rattle.tuple_codec.specs.OperationView.{operation_of}
use Rattle.client_cert.proofs.Sealed.{may_seal, request_is_short, sealed_asks}
use Rattle.client_cert.proofs.asking.seal_request.Goals as goal

pub seal_for_all-sealed-requires-clause-may : goal.seal_for_all-sealed-requires-clause-may
seal_for_all-sealed-requires-clause-may c receivers all =
    may_seal (256 + c.args.client.number) c.args.timestamp.0 c.args.faults c.args.mode (operation_of c.args.op) receivers
    (omega (arith, c.args.client.in_range)) (omega (arith, c.note_timestamp-number.ensures)) c.note_valid.ensures c.requires.few all

pub seal_for_all-sealed-requires-clause-short : goal.seal_for_all-sealed-requires-clause-short
seal_for_all-sealed-requires-clause-short c =
    request_is_short (256 + c.args.client.number) c.args.timestamp.0 c.args.mode (operation_of c.args.op) c.note_valid.ensures

pub returns-clause-sealed : goal.returns-clause-sealed
returns-clause-sealed c =
    sealed_asks c.seal_for_all-sealed.result (λ v. v.items) c.args.ring.now (256 + c.args.client.number) c.args.timestamp.0 c.args.faults c.args.mode (operation_of c.args.op) c.requires.faults
    c.seal_for_all-sealed.ensures.sealed

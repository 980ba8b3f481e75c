use Rattle.std.proofs.Common.{subst}
use Rattle.tuple_codec.specs.Results.{DecodingFails}
use Rattle.wire_format.specs.Reading.{body_of}
use Rattle.wire_format.specs.Views.{body_data}
use Rattle.wire.proofs.Whole.{body_reads, has_body}
use Rattle.wire.proofs.decoding.decode_judged_body.Goals as goal

pub unreachable-requires : goal.unreachable-requires
unreachable-requires c =
    body_reads c.args.bytes.now c.body_bytes.result.now c.requires c.body_bytes.ensures.text
    (subst (λ e. DecodingFails e (body_of c.body_bytes.result.now)) c.in-Err-Malformed.field-0-is c.in-Err-Malformed.ensures)

pub returns-in-Ok : goal.returns-in-Ok
returns-in-Ok c = has_body c.args.bytes.now c.body_bytes.result.now c.requires c.body_bytes.ensures.text (body_data c.in-Ok.body) c.in-Ok.ensures

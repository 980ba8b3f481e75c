use Rattle.std.proofs.Common.{subst, arith}
use Rattle.tuple_codec.specs.Results.{DecodingFails}
use Rattle.wire_format.specs.Reading.{frame_read}
use Rattle.wire_format.specs.Views.{frame_data}
use Rattle.wire_format.proofs.Carriers.{frame_of_found}
use Rattle.wire.proofs.Whole.{reads}
use Rattle.wire.proofs.decoding.decode_judged.Goals as goal

pub unreachable-requires : goal.unreachable-requires
unreachable-requires c =
    reads c.args.bytes.now c.requires (subst (λ e. DecodingFails e (frame_read c.args.bytes.now)) c.in-Err-Malformed.field-0-is c.in-Err-Malformed.ensures)

pub returns-in-Ok : goal.returns-in-Ok
returns-in-Ok c = frame_of_found c.args.bytes.now (frame_data c.in-Ok.frame) (λ i. omega (arith, c.type_inv.bytes i)) c.in-Ok.ensures

use Rattle.std.proofs.Common.{◌==◌, ◌+◌, Some, slice_index, ap, ◌∙◌}
use Rattle.std.proofs.lemmas.Bool.{and_parts}
use Rattle.terms.specs.declared.order.Mode.{Mode}
use Rattle.wire_format.specs.Messages.{request}
use Rattle.signing.specs.Publics.{knows}
use Rattle.read_only.proofs.Marks.{marked_is_read}
use Rattle.read_only.proofs.receiving.authenticate_read.Goals as goal

pub authenticate_request-requires : goal.authenticate_request-requires
authenticate_request-requires c = (and_parts (slice_index c.args.bytes.now 4 == 0x41) (slice_index c.args.bytes.now 15 == 0x01) c.requires.marks).0

pub returns-clause-some : goal.returns-clause-some
returns-clause-some c publics =
    let it = c.in_ok-request.request in
    let authentic = c.in_ok-request.ensures.some publics in
    let mode = marked_is_read c.args.bytes.now (knows c.args.ring.now publics) c.args.me.0 (256 + it.client.number) it.timestamp.0 it.mode authentic.op authentic.receives c.requires.marks in
    record {
      op = authentic.op;
      receives = authentic.receives ∙ ap (λ (m : Mode). Some (record { sender = 256 + it.client.number; message = request it.timestamp.0 m authentic.op })) mode;
      spelled = authentic.spelled;
    }

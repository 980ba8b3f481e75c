use Rattle.std.proofs.Common.{◌∙◌, sym, arith}
use Rattle.wire_format.proofs.Carriers.{request_is, request_has}
use Rattle.wire.proofs.batches.is_ordered_request.Goals as goal

pub returns : goal.returns
returns c = (
  λ yes. request_is c.args.frame.now (λ i. omega (arith, c.type_inv.frame i)) (sym c.is_request_frame.ensures ∙ yes),
  λ carried. c.is_request_frame.ensures ∙ request_has c.args.frame.now carried,
)

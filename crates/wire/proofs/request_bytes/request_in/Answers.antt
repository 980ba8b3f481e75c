use Rattle.wire.proofs.RequestFields.{has_fields, holds_request}
use Rattle.wire.proofs.request_bytes.request_in.Goals as goal

pub fields_of-requires : goal.fields_of-requires
fields_of-requires c = has_fields c.args.frame.now c.body_bytes.result.now c.requires.frame c.body_bytes.ensures.text c.requires.kind

pub returns : goal.returns
returns c =
    holds_request c.args.frame.now c.body_bytes.result.now c.requires.frame c.body_bytes.ensures.text c.requires.kind c.fields_of.result
    c.fields_of.ensures.sender c.fields_of.ensures.timestamp c.fields_of.ensures.mode c.fields_of.ensures.op

use Rattle.std.proofs.Common.{◌∙◌, arith}
use Rattle.event_log.proofs.Making.{head_says, compared_same}
use Rattle.event_log.proofs.groups.text_len.Goals as goal

pub returns : goal.returns
returns c =
    let mark = c.split_at.result.0.now in
    head_says c.args.owner c.args.head.now mark c.split_at.result.1.now c.split_at-2.result.0.now c.split_at-2.result.1.now c.from_be_bytes-len.result
    (λ i. omega (arith, c.type_inv.head i)) (omega arith) c.split_at.ensures.front c.split_at.ensures.back c.split_at-2.ensures.front c.split_at-2.ensures.back
    (compared_same mark c.as_slice.result.now c.ne.result c.ne.ensures c.if-ne.false ∙ c.as_slice.ensures ∙ c.to_be_bytes.ensures) c.from_be_bytes-len.ensures (omega arith)

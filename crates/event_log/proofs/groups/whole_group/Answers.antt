use Rattle.std.proofs.Common.{◌∙◌, sym, ap, arith}
use Rattle.std.specs.Int.{w64, to_be_bytes}
use Rattle.event_log.proofs.Making.{no_mark, no_check, group_by_body, split_twice, compared_same, compared_other}
use Rattle.event_log.proofs.groups.whole_group.Goals.{then-ne-via-then-ne, then-ne-via-else-ne+then-ne-2}
use Rattle.event_log.proofs.groups.whole_group.Goals as goal

pub returns-then-ne : goal.returns-then-ne
returns-then-ne c =
    let bytes = c.args.bytes.now in
    let mark = c.split_at.result.0.now in
    let body = c.split_at-2.result.0.now in
    let check = c.split_at-2.result.1.now in
    let split = split_twice bytes mark c.split_at.result.1.now body check _ c.split_at.ensures.front c.split_at.ensures.back c.split_at-2.ensures.front c.split_at-2.ensures.back in
    elim c.then-ne.branch [
      | then-ne-via-then-ne w ↦
          no_mark c.args.owner bytes mark body check split c.split_at.ensures.front_len (omega (arith, c.split_at-2.ensures.back_len, c.split_at.ensures.back_len))
          (λ same. compared_other mark c.as_slice.result.now c.ne.result c.ne.ensures w.if-ne.true (same ∙ sym (c.as_slice.ensures ∙ c.to_be_bytes.ensures)))
      | then-ne-via-else-ne+then-ne-2 w ↦
          no_check c.args.owner bytes mark body check split c.split_at.ensures.front_len (omega (arith, c.split_at-2.ensures.back_len, c.split_at.ensures.back_len))
          (λ same. compared_other check w.as_slice-else-ne.result.now w.ne-else-ne.result w.ne-else-ne.ensures w.if-ne-2.true
          (same ∙ sym (w.as_slice-else-ne.ensures ∙ w.to_be_bytes-else-ne.ensures ∙ ap (to_be_bytes w64) w.digest_of.ensures.value)))
    ]

pub returns : goal.returns
returns c =
    let bytes = c.args.bytes.now in
    let mark = c.split_at.result.0.now in
    let body = c.split_at-2.result.0.now in
    let check = c.split_at-2.result.1.now in
    let split = split_twice bytes mark c.split_at.result.1.now body check _ c.split_at.ensures.front c.split_at.ensures.back c.split_at-2.ensures.front c.split_at-2.ensures.back in
    group_by_body c.args.owner bytes mark body check c.whole_body.result split c.split_at.ensures.front_len (omega (arith, c.split_at-2.ensures.back_len, c.split_at.ensures.back_len))
    (compared_same mark c.as_slice.result.now c.ne.result c.ne.ensures c.if-ne.false ∙ c.as_slice.ensures ∙ c.to_be_bytes.ensures)
    (compared_same check c.as_slice-else-ne.result.now c.ne-else-ne.result c.ne-else-ne.ensures c.if-ne-2.false ∙ c.as_slice-else-ne.ensures
    ∙ c.to_be_bytes-else-ne.ensures ∙ ap (to_be_bytes w64) c.digest_of.ensures.value)
    c.whole_body.ensures

use Rattle.std.proofs.Common.{ap, sym, ◌∙◌, arith}
use Rattle.wire_format.specs.Views.{texts_of}
use Rattle.desk.proofs.WaitingKept.{passed_over, too_many, copied}
use Rattle.desk.proofs.waiting.copy_unnumbered.Goals.{then-not-request+then-len-lt-MAX_REQUESTS+in_ok-add_copy, else-not-request, else-not-request-via-then-not-request+else-len-lt-MAX_REQUESTS, else-not-request-via-else-not-request}
use Rattle.desk.proofs.waiting.copy_unnumbered.Goals as goal

pub loop-request-preserved : goal.loop-request-preserved
loop-request-preserved c =
    let rs = c.args.requests.now in
    let i = c.loop-request.request-index in
    let r = c.request-item.result in
    let at = sym c.request-item.is in
    let frames = c.loop-request.frames.items in
    elim c.if-not-request.branch [
      | then-not-request+then-len-lt-MAX_REQUESTS+in_ok-add_copy w ↦
          let few = w.if-len-lt-MAX_REQUESTS.true in
          let long = w.len.ensures in
          ap (λ v. texts_of v.items) w.frames-is
          ∙ copied rs i r c.loop-request-test.true at frames c.loop-request.invariant w.add_copy.new.frames.items _ w.if-not-request.true (omega (arith, few, long)) w.deref.ensures.value w.in_ok-add_copy.ensures
      | else-not-request w ↦ elim w.else-not-request.branch [
        | else-not-request-via-then-not-request+else-len-lt-MAX_REQUESTS x ↦
            let full = x.if-len-lt-MAX_REQUESTS.false in
            let long = x.len.ensures in
            ap (λ v. texts_of v.items) w.frames-is
            ∙ too_many rs i r c.loop-request-test.true at frames c.loop-request.invariant x.if-not-request.true (omega (arith, full, long))
        | else-not-request-via-else-not-request x ↦
            ap (λ v. texts_of v.items) w.frames-is ∙ passed_over rs i r c.loop-request-test.true at frames c.loop-request.invariant x.if-not-request.false
      ]
    ]

use Rattle.std.proofs.Common.{ℕ, ◌<◌, inl, inr, List, sym, ap, ◌∙◌, subst, arith}
use Rattle.std.proofs.lemmas.Bool.{true≢false}
use Rattle.std.proofs.lemmas.Slice.Eq.{bytes_eq-Decides}
use Rattle.wire.specs.Pieces.{IsFrontPiece}
use Rattle.wire_format.specs.Spelling.{is_ordered_request}
use Rattle.protocol.specs.Replica.State.{last_time}
use Rattle.execution.specs.Executed.{ExecutedData}
use Rattle.desk.specs.State.{DeskData}
use Rattle.desk.specs.Waiting.{lent, request_of}
use Rattle.desk.proofs.SameBodies.{says_same, says_other}
use Rattle.desk.proofs.desk.Desk.arrival_of.Goals as goal

pub returns-then-timestamp-waits : goal.returns-then-timestamp-waits
returns-then-timestamp-waits c = inr (
  c.in-Some.waits.now,
  ap (λ (d : DeskData). request_of c.args.client.number d.waiting) (sym c.self.view_is) ∙ sym c.request_of.ensures.value ∙ ap lent c.in-Some.is,
  inl c.if-timestamp-waits.true,
)

pub returns-then-eq : goal.returns-then-eq
returns-then-eq c = (
  subst (λ (n : ℕ). n < c.args.timestamp.0) (c.seen.ensures ∙ ap (λ (e : ExecutedData). last_time e.state c.args.client.number) c.deref.ensures ∙ ap (λ (d : DeskData). last_time d.executed.state c.args.client.number) c.self.view_is) c.if-timestamp-seen.false,
  c.in-Some.waits.now,
  ap (λ (d : DeskData). request_of c.args.client.number d.waiting) (sym c.self.view_is) ∙ sym c.request_of.ensures.value ∙ ap lent c.in-Some.is,
  omega (arith, c.if-waits-timestamp.false, c.if-timestamp-waits.false),
  says_same is_ordered_request c.in-Some.waits.now.frame.items c.args.frame.now c.body_bytes.result.now c.body_bytes-2.result.now c.in-Some.ensures.request c.requires
      (subst (λ (bs : List ℕ). IsFrontPiece bs c.body_bytes.result.now) c.deref-2.ensures.value c.body_bytes.ensures.text) c.body_bytes-2.ensures.text
      ((bytes_eq-Decides c.body_bytes.result.now c.body_bytes-2.result.now).0 (sym c.eq.ensures ∙ c.if-eq.true)),
)

pub returns-else-eq : goal.returns-else-eq
returns-else-eq c = inr (
  c.in-Some.waits.now,
  ap (λ (d : DeskData). request_of c.args.client.number d.waiting) (sym c.self.view_is) ∙ sym c.request_of.ensures.value ∙ ap lent c.in-Some.is,
  inr (
    omega (arith, c.if-waits-timestamp.false, c.if-timestamp-waits.false),
    λ same. true≢false
        (sym ((bytes_eq-Decides c.body_bytes.result.now c.body_bytes-2.result.now).1
        (says_other is_ordered_request c.in-Some.waits.now.frame.items c.args.frame.now c.body_bytes.result.now c.body_bytes-2.result.now c.in-Some.ensures.request c.requires
        (subst (λ (bs : List ℕ). IsFrontPiece bs c.body_bytes.result.now) c.deref-2.ensures.value c.body_bytes.ensures.text) c.body_bytes-2.ensures.text same))
        ∙ sym c.eq.ensures ∙ c.if-eq.false),
  ),
)

use Rattle.std.proofs.Common.{ℕ, ◌+◌, ◌*◌, Some, ap, sym, ◌∙◌, arith}
use Rattle.std.proofs.lemmas.Bool.{le-ltb, lt-ltb}
use Rattle.wire_format.specs.Messages.{ViewChangeData}
use Rattle.wire_format.specs.Views.{frame_data, view_change_data}
use Rattle.view_change.specs.Sets.{keyed}
use Rattle.view_change.proofs.Opening.{not_spelled, spelled_tells, no_sender, no_signature, no_change, is_change}
use Rattle.view_change.proofs.carried.open_change.Goals as goal

pub returns-in_default : goal.returns-in_default
returns-in_default c = sym (not_spelled (keyed c.args.keys.now c.args.sizes) c.args.bytes.now (rw c.in_default.is at c.in_ok-frame.ensures))

pub returns-then-sender-sizes : goal.returns-then-sender-sizes
returns-then-sender-sizes c =
    let k = keyed c.args.keys.now c.args.sizes in
    let e = c.number-sender.ensures in
    let l = c.if-sender-sizes.true in
    sym (spelled_tells k c.args.bytes.now (frame_data c.in-Some.frame) (rw c.in-Some.is at c.in_ok-frame.ensures) ∙ no_sender k (frame_data c.in-Some.frame) (le-ltb (frame_data c.in-Some.frame).body.sender (3 * c.args.sizes.faults + 1) (omega arith)))

pub returns-then-not-is_signed : goal.returns-then-not-is_signed
returns-then-not-is_signed c =
    let k = keyed c.args.keys.now c.args.sizes in
    sym (spelled_tells k c.args.bytes.now (frame_data c.in-Some.frame) (rw c.in-Some.is at c.in_ok-frame.ensures)
    ∙ no_signature k (frame_data c.in-Some.frame) (sym c.if-not-is_signed.ensures))

pub returns-in_default-into_change : goal.returns-in_default-into_change
returns-in_default-into_change c =
    let k = keyed c.args.keys.now c.args.sizes in
    sym (spelled_tells k c.args.bytes.now (frame_data c.in-Some.frame) (rw c.in-Some.is at c.in_ok-frame.ensures) ∙ no_change k (frame_data c.in-Some.frame) c.in_default-into_change.ensures)

pub returns : goal.returns
returns c =
    let k = keyed c.args.keys.now c.args.sizes in
    let e = c.number-sender.ensures in
    let l = c.if-sender-sizes.false in
    ap (λ (n : ℕ). let r : ℕ × ViewChangeData = (n, view_change_data c.in-Some-into_change.change) in Some r) e ∙ sym (spelled_tells k c.args.bytes.now (frame_data c.in-Some.frame) (rw c.in-Some.is at c.in_ok-frame.ensures)
    ∙ is_change k (frame_data c.in-Some.frame) (view_change_data c.in-Some-into_change.change) (lt-ltb (frame_data c.in-Some.frame).body.sender (3 * c.args.sizes.faults + 1) (omega arith))
    (sym c.if-not-is_signed.ensures) c.in-Some-into_change.ensures)

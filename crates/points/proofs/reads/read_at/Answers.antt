use Rattle.std.proofs.Common.{◌≡◌, ℕ, ◌+◌, max, reverse, rules}
use Rattle.tuple_codec.specs.OperationView.{outcome_of}
use Rattle.signing.specs.Publics.{knows}
use Rattle.points.specs.Places.{position_in}
use Rattle.points.proofs.Ending.{none_called, none_got, none_read, one_read, same_placing}
use Rattle.points.proofs.reads.read_at.Goals as goal

pub returns-in_default-clause-read : goal.returns-in_default-clause-read
returns-in_default-clause-read c =
    none_called (knows c.args.ring.now c.args.publics.now) (position_in (reverse c.args.places.now.rises.items)) (256 + c.args.client.number) c.args.timestamp.0 (outcome_of c.args.answer.now) c.args.scan c.in_default.is

pub returns-in_default-got-clause-read : goal.returns-in_default-got-clause-read
returns-in_default-got-clause-read c =
    none_got (knows c.args.ring.now c.args.publics.now) (position_in (reverse c.args.places.now.rises.items)) (256 + c.args.client.number) c.args.timestamp.0 (outcome_of c.args.answer.now) c.args.scan c.in_default-got.is

pub returns-in_default-2-clause-read : goal.returns-in_default-2-clause-read
returns-in_default-2-clause-read c =
    none_read (knows c.args.ring.now c.args.publics.now) (position_in (reverse c.args.places.now.rises.items)) (256 + c.args.client.number) c.args.timestamp.0 (outcome_of c.args.answer.now) c.args.scan
    c.in-Some-got.bytes c.in-Some-got.is (rw c.in_default-2.is at c.in_ok-number.ensures.number)

pub returns-clause-read : goal.returns-clause-read
returns-clause-read c =
    let at : ℕ → ℕ = position_in (reverse c.args.places.now.rises.items) in
    let position : c.max-position.result ≡ max c.args.scan.invoked (at c.in-Some-2.number.0) = search rules in
    one_read (knows c.args.ring.now c.args.publics.now) at (256 + c.args.client.number) c.args.timestamp.0 (outcome_of c.args.answer.now) c.args.scan
    c.in-Some.call c.in-Some-got.bytes c.in-Some-2.number.0 _ c.in-Some.is c.in-Some-got.is (rw c.in-Some-2.is at c.in_ok-number.ensures.number)
    (same_placing (256 + c.args.client.number) c.in-Some.call.timestamp.0 c.in-Some-2.number.0 _ _ _ _ _ _ c.in_ok-op.ensures c.in_ok-answer.ensures position)

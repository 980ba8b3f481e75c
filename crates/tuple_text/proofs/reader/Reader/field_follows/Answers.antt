use Rattle.std.proofs.Common.{◌≡◌, ◌≢◌, false, ◌⊎◌, inl, inr}
use Rattle.std.proofs.lemmas.Result.{err_from_is_err_and}
use Rattle.tuple_text.specs.Reading.{no_room, begins_slot}
use Rattle.tuple_text.proofs.Steps.{turn_stops, has_turned, none_further}
use Rattle.tuple_text.proofs.reader.Reader.field_follows.Goals as goal
use Rattle.tuple_text.proofs.reader.Reader.field_follows.Goals.{else-follows-via-then-follows+else-count-eq-MAX_FIELDS}
use Rattle.tuple_text.proofs.reader.Reader.field_follows.Goals.{else-follows-via-else-follows}

pub returns-in_err-follows : goal.returns-in_err-follows
returns-in_err-follows c =
    let p = err_from_is_err_and c.from_residual.result c.from_residual.ensures.1 in
    rw (p.1, p.2) (turn_stops (no_room begins_slot c.args.levels) c.args.count c.args.free _ c.args.self.now.rest.now c.turn.new.self.rest.now c.in_err-follows.ensures)

pub returns-then-count-eq-MAX_FIELDS : goal.returns-then-count-eq-MAX_FIELDS
returns-then-count-eq-MAX_FIELDS c =
    none_further (no_room begins_slot c.args.levels) c.args.count c.args.free c.in_ok-follows.follows c.full_template.result c.args.self.now.rest.now c.turn.new.self.rest.now c.turn.new.self.rest.now c.in_ok-follows.ensures c.if-follows.true c.if-count-eq-MAX_FIELDS.true c.full_template.ensures

pub returns : goal.returns
returns c =
    let room : (c.in_ok-follows.follows ≡ false) ⊎ (c.args.count ≢ 32) = elim c.else-follows.branch [ else-follows-via-then-follows+else-count-eq-MAX_FIELDS w ↦ inr w.if-count-eq-MAX_FIELDS.false | else-follows-via-else-follows w ↦ inl w.if-follows.false ] in
    has_turned (no_room begins_slot c.args.levels) c.args.count c.args.free c.in_ok-follows.follows c.args.self.now.rest.now c.turn.new.self.rest.now c.in_ok-follows.ensures room

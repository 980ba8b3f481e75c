-- From tuple to tuple.
use Rattle.std.proofs.Common.{arith, ◌+◌, ◌≤◌, length, ◌∙◌}
use Rattle.tuple_codec.specs.Spelling.{tuples_spelling}
use Rattle.space_library.proofs.Texts.{tuple_room, tuple_length, tuple_written, tuples_length, tuples_written, puts_length}
use Rattle.space_library.proofs.writing.put_tuples.Goals as goal

pub put_tuple-at-requires : goal.put_tuple-at-requires
put_tuple-at-requires c =
    let so_far = c.loop-tuple.invariant in
    let same = so_far.room in
    let asked = c.requires in
    tuple_room c.args.tuples.now c.loop-tuple.tuple-index c.tuple-item.result _ _ _ (omega arith) c.tuple-item.is so_far.behind (omega (arith, same, asked))

pub loop-tuple-preserved : goal.loop-tuple-preserved
loop-tuple-preserved c =
    let so_far = c.loop-tuple.invariant in
    let ts = c.args.tuples.now in
    let i = c.loop-tuple.tuple-index in
    let t = c.tuple-item.result in
    let out = c.loop-tuple.out in
    let same = so_far.room in
    let asked = c.requires in
    let low : c.args.start + length (tuples_spelling ts) ≤ length out = omega (arith, same, asked) in
    let room = tuple_room ts i t c.loop-tuple.at _ (length out) (omega arith) c.tuple-item.is so_far.behind low in
    let within : c.loop-tuple.at ≤ length out = omega (arith, room) in
    let puts = c.put_tuple-at.ensures in record {
      behind = tuple_length ts i t _ _ _ (omega arith) c.tuple-item.is puts.behind so_far.behind;
      written = tuple_written ts i t _ _ _ _ _ (omega arith) c.tuple-item.is within puts so_far.written;
      room = puts_length _ _ _ _ _ room puts ∙ so_far.room;
    }

pub returns : goal.returns
returns c =
    let so_far = c.loop-tuple.invariant in record {
      behind = tuples_length c.args.tuples.now c.loop-tuple.tuple-index _ _ (omega arith) so_far.behind;
      put = tuples_written c.args.tuples.now c.loop-tuple.tuple-index _ _ _ (omega arith) so_far.written;
    }

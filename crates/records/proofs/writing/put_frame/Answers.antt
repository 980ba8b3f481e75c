use Rattle.std.proofs.Common.{◌+◌, ◌*◌, arith, ◌∙◌, length}
use Rattle.records.proofs.Putting.{parties_len, frame_put}
use Rattle.records.proofs.writing.put_frame.Goals as goal

pub put-requires-3 : goal.put-requires-3
put-requires-3 c = omega (arith, parties_len c.args.receivers.now, c.in_ok-reserve.ensures {u = tt}, c.put.ensures.1, c.put.ensures.2, c.put-2.ensures.1, c.put-2.ensures.2, c.put_parties.ensures.1, c.put_parties.ensures.2)

pub returns-clause-ok : goal.returns-clause-ok
returns-clause-ok c =
    let len = 2 + 2 * length c.args.receivers.now + length c.args.frame.now in
    frame_put c.args.receivers.now c.args.frame.now c.args.out.now.items _ _ _ _ len (omega arith)
    (c.put.ensures.0 ∙ cc) c.put-2.ensures.0 c.put_parties.ensures.0 c.put-3.ensures.0

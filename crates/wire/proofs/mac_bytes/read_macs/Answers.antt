use Rattle.std.proofs.Common.{◌*◌, ◌∙◌, Some, ap, sym, arith}
use Rattle.wire.specs.Macs.{macs_in}
use Rattle.wire.proofs.Steps.{rest_whole}
use Rattle.wire.proofs.Entries.{macs_cut, macs_fall, macs_there}
use Rattle.wire.proofs.mac_bytes.read_macs.Goals as goal

pub returns-then-front-len : goal.returns-then-front-len
returns-then-front-len c =
    macs_cut c.args.bytes.now c.in_ok-count.front.now c.in_ok-count.count c.in_ok-count.ensures (omega arith) (omega arith) (omega arith)

pub returns-then-not-ascend : goal.returns-then-not-ascend
returns-then-not-ascend c =
    macs_fall c.args.bytes.now c.in_ok-count.front.now c.in_ok-count.count c.in_ok-count.ensures (omega arith) (omega arith) (omega arith) (sym c.ascend.ensures ∙ c.if-not-ascend.true)

pub returns : goal.returns
returns c =
    macs_there c.args.bytes.now c.in_ok-count.front.now c.in_ok-count.count c.in_ok-count.ensures (omega arith) (omega arith) (omega arith) (sym c.ascend.ensures ∙ c.if-not-ascend.false)
    ∙ ap (λ r. Some (macs_in c.in_ok-count.count c.in_ok-count.front.now, r)) (sym (rest_whole c.in_ok-count.front.now (34 * c.in_ok-count.count)))

use Rattle.std.proofs.Common.{◌≡◌, ◌+◌, ◌-◌, ◌∙◌, take, drop, length, length-drop, ap, arith}
use Rattle.wire_format.specs.Lists.{ascends}
use Rattle.wire_format.specs.Spelling.{mac_before}
use Rattle.wire.specs.Macs.{macs_in}
use Rattle.byteorder.specs.Endian.{big_number}
use Rattle.wire.proofs.Steps.{rest_whole}
use Rattle.wire.proofs.Entries.{next_ascends, next_falls}
use Rattle.wire.proofs.mac_bytes.ascend.Goals as goal

pub returns-then-read_u16 : goal.returns-then-read_u16
returns-then-read_u16 c =
    next_falls (c.args.count + 1 - c.loop-i._i) (c.args.count - c.loop-i._i) c.loop-i.rest.now (omega arith) (omega arith)
    (omega (arith, c.read_u16.ensures, c.read_u16-in-loop-i.ensures, ap (big_number 2) (rest_whole c.loop-i.rest.now 34)))
    ∙ c.loop-i.invariant.same

pub loop-i-preserved : goal.loop-i-preserved
loop-i-preserved c =
    let whole : take (length c.loop-i.rest.now - 34) (drop 34 c.loop-i.rest.now) ≡ drop 34 c.loop-i.rest.now = rest_whole c.loop-i.rest.now 34 in
    record {
      whole = omega (arith, ap length whole, length-drop 34 c.loop-i.rest.now, c.loop-i.invariant.whole);
      same =
          ap (λ bs. ascends mac_before (macs_in (c.args.count + 1 - (c.loop-i._i + 1)) bs)) whole
          ∙ next_ascends (c.args.count + 1 - c.loop-i._i) (c.args.count + 1 - (c.loop-i._i + 1)) c.loop-i.rest.now (omega arith) (omega arith)
          (omega (arith, c.read_u16.ensures, c.read_u16-in-loop-i.ensures, ap (big_number 2) whole))
          ∙ c.loop-i.invariant.same;
    }

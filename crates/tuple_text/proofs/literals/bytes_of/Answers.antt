use Rattle.std.proofs.Common.{◌≡◌, ◌-◌, ◌*◌, ◌+◌, ◌∙◌, length, get_or, refl, ap, arith}
use Rattle.tuple_text.specs.Literals.{hex_value}
use Rattle.tuple_text.proofs.LiteralBytes.{pairs_more}
use Rattle.tuple_text.proofs.literals.bytes_of.Goals as goal

pub loop-left-preserved : goal.loop-left-preserved
loop-left-preserved g c =
    let left = c.loop-left.left.now in
    let value = c.hex_value.result * 16 + c.hex_value-in-len2-up.result in
    let is : value ≡ hex_value (get_or left 0 0) * 16 + hex_value (get_or left 1 0) = ap (λ n. n * 16 + c.hex_value-in-len2-up.result) c.hex_value.ensures.value ∙ ap (λ n. hex_value (get_or left 0 0) * 16 + n) c.hex_value-in-len2-up.ensures.value in
    let more =
    pairs_more c.args.digits.now c.loop-left.bytes.items c.push_reserved.new.self.items left (length left - 2) value (omega (arith, c.in-len2-up.len_at_least)) refl c.loop-left.invariant.hex c.loop-left.invariant.even c.loop-left.invariant.passed is c.push_reserved.ensures.items in
    record {
      hex = more.0;
      even = more.1;
      room = omega (arith, more.3, c.loop-left.invariant.room, c.push_reserved.ensures.len, c.push_reserved.ensures.capacity, c.in-len2-up.len_at_least);
      passed = more.2;
    }

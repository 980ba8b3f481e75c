use Rattle.std.proofs.Common.{◌≡◌, ◌<◌, ℕ, true, subst, get_or, arith}
use Rattle.tuple_text.specs.Literals.{is_hex}
use Rattle.tuple_text.proofs.PlainText.{further, in_front}
use Rattle.tuple_text.proofs.literals.hex_groups.Goals as goal

pub loop-passed-preserved : goal.loop-passed-preserved
loop-passed-preserved c =
    let bytes = c.args.bytes.now in
    let passed = c.loop-passed.passed in
    let group : (k : ℕ) → k < 16 → is_hex (get_or c.split_at.result.1.now k 0) ≡ true =
    in_front is_hex c.split_at.result.1.now c.split_at-in-loop-passed.result.0.now 16 16 c.split_at-in-loop-passed.ensures.front (omega arith) (λ k h. c.are_hex.ensures c.if-not-are_hex.false k (omega (arith, h, c.split_at-in-loop-passed.ensures.front_len))) in
    record {
      within = omega (arith, c.loop-passed-test.true, c.loop-passed.invariant.within);
      hex = further is_hex bytes passed 16 c.loop-passed.invariant.hex (subst (λ xs. (k : ℕ) → k < 16 → is_hex (get_or xs k 0) ≡ true) c.split_at.ensures.back group);
    }

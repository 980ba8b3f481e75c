use Rattle.std.proofs.Common.{◌≡◌, ◌<◌, ℕ, false, subst, get_or, arith}
use Rattle.tuple_text.specs.Written.{is_escaped}
use Rattle.tuple_text.proofs.Writing.{further, in_front}
use Rattle.tuple_text.proofs.write.plain_groups.Goals as goal

pub loop-passed-preserved : goal.loop-passed-preserved
loop-passed-preserved c =
    let text = c.args.text.now in
    let passed = c.loop-passed.passed in
    let group : (k : ℕ) → k < 16 → is_escaped (get_or c.split_at.result.1.now k 0) ≡ false =
    in_front is_escaped c.split_at.result.1.now c.split_at-in-loop-passed.result.0.now 16 c.split_at-in-loop-passed.ensures.front c.split_at-in-loop-passed.ensures.front_len (c.are_plain.ensures c.if-not-are_plain.false) in
    record {
      within = omega (arith, c.loop-passed-test.true, c.loop-passed.invariant.within);
      plain = further is_escaped text passed 16 c.loop-passed.invariant.plain (subst (λ xs. (k : ℕ) → k < 16 → is_escaped (get_or xs k 0) ≡ false) c.split_at.ensures.back group);
    }

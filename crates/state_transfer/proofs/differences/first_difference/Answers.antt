use Rattle.std.proofs.Common.{◌≡◌, [], length, ◌∙◌, sym, arith}
use Rattle.std.proofs.lemmas.List.{ext_get_or}
use Rattle.state_transfer.proofs.differences.first_difference.Goals as goal

pub returns-clause-none : goal.returns-clause-none
returns-clause-none c =
    let wanted : length c.args.wanted.now ≡ 32 = omega arith in
    let held : length c.args.held.now ≡ 32 = omega arith in
    ext_get_or [] c.args.wanted.now c.args.held.now (wanted ∙ sym held) (λ k h. c.loop-child.invariant k (omega arith))

use Rattle.std.proofs.Common.{◌≡◌, ◌≢◌, ◌∙◌, ◌+◌, ◌-◌, ◌*◌, arith, get_or, sym}
use Rattle.std.specs.Int.{bit_at}
use Rattle.std.proofs.lemmas.Nat.Bits.{shr_and_one}
use Rattle.signing.specs.Signatures.{shown_root}
use Rattle.signing.proofs.Nodes.{climbed-leaf, climbed_left, climbed_right}
use Rattle.signing.proofs.signature.root_shown.Goals as goal
use Rattle.signing.proofs.signature.root_shown.Goals.{then-leaf-level-eq0, else-leaf-level-eq0}

pub loop-level-init : goal.loop-level-init
loop-level-init c = c.digest_shown-digest.ensures ∙ sym (climbed-leaf _ _ _)

pub loop-level-preserved : goal.loop-level-preserved
loop-level-preserved c =
    let width : 16385 + 32 * c.loop-level.level + 32 - (16385 + 32 * c.loop-level.level) ≡ 32 = omega arith in
    let same = shr_and_one (get_or c.args.signature.now 0 0) c.loop-level.level in
    elim c.if-leaf-level-eq0.branch [
      | then-leaf-level-eq0 w ↦
          let left : bit_at (get_or c.args.signature.now 0 0) c.loop-level.level ≡ 0 = sym same ∙ w.if-leaf-level-eq0.true in
          rw (w.digest-is, climbed_left _ _ _ c.loop-level.level left, ← c.loop-level.invariant) (rw width at w.parent-digest.ensures)
      | else-leaf-level-eq0 w ↦
          let right : bit_at (get_or c.args.signature.now 0 0) c.loop-level.level ≢ 0 = λ zero. w.if-leaf-level-eq0.false (same ∙ zero) in
          rw (w.digest-is, climbed_right _ _ _ c.loop-level.level right, ← c.loop-level.invariant) (rw width at w.parent-digest-else-leaf-level-eq0.ensures)
    ]

pub returns : goal.returns
unfolding shown_root
returns c =
    let all : c.loop-level.level ≡ 6 = omega arith in
    rw (← all) c.loop-level.invariant

use Rattle.std.proofs.Common.{◌≡◌, ◌/◌, ◌∙◌, drop, length, take, refl, sym, arith, length-drop}
use Rattle.std.proofs.lemmas.List.{length-take-le, take_all}
use Rattle.sha2.specs.Sha256.{compress, hash_after}
use Rattle.hash_lanes.specs.Lanes.{lane}
use Rattle.hash_lanes.proofs.Finishing.{one_block, two_blocks}
use Rattle.hash_lanes.proofs.four.take_tail.Goals as goal

pub returns-then-len-gt-BLOCK_LEN-clause-lanes : goal.returns-then-len-gt-BLOCK_LEN-clause-lanes
returns-then-len-gt-BLOCK_LEN-clause-lanes c = λ l lt.
    let h = lane l c.args.state.now in
    let tail = c.args.tail.now in
    let both : c.args.len ≡ 128 = omega arith in
    let whole : take c.args.len tail ≡ tail = take_all c.args.len tail (omega (arith, c.told-tail)) in
    let count : c.args.len / 64 ≡ 2 = omega arith in
    let rest : length (drop 64 tail) ≡ 64 = omega (arith, length-drop 64 tail, c.told-tail) in
    let second : take 64 (drop 64 tail) ≡ drop 64 tail = take_all 64 (drop 64 tail) (omega arith) in
    c.compress_same-then-len-gt-BLOCK_LEN.ensures.lanes l lt ∙ (λ i. compress (c.compress_same.ensures.lanes l lt i) (second i))
    ∙ two_blocks h tail _ _ c.told-tail refl refl
    ∙ (λ i. hash_after h (sym whole i) (sym count i))

pub returns-else-len-gt-BLOCK_LEN-clause-lanes : goal.returns-else-len-gt-BLOCK_LEN-clause-lanes
returns-else-len-gt-BLOCK_LEN-clause-lanes c = λ l lt.
    let h = lane l c.args.state.now in
    let tail = c.args.tail.now in
    let one : c.args.len ≡ 64 = omega arith in
    let count : c.args.len / 64 ≡ 1 = omega arith in
    let long : length (take 64 tail) ≡ 64 = length-take-le 64 tail (omega (arith, c.told-tail)) in
    c.compress_same.ensures.lanes l lt ∙ sym (one_block h (take 64 tail) long) ∙ (λ i. hash_after h (take (sym one i) tail) (sym count i))

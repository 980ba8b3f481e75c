use Rattle.std.proofs.Common.{◌≡◌, ◌++◌, ◌∙◌, ◌+◌, [], map, ap, arith, get_or, refl}
use Rattle.signing.specs.Fours.{public_hash_at, public_pair}
use Rattle.signing.proofs.Fours.{have_taken, same_block}
use Rattle.signing.proofs.secrets.Secrets.take_in_bit.Goals as goal

pub returns : goal.returns
returns c = λ texts taken.
    let seed = c.args.self.now in
    let first = c.args.first in
    let bit = c.args.bit in
    let zeros = c.public_hashes-zeros.ensures ∙ ap (map (public_hash_at seed)) c.of_leaves.ensures in
    let ones = c.public_hashes-ones.ensures ∙ ap (map (public_hash_at seed)) c.of_leaves-2.ensures in
    let a : get_or c.public_hashes-zeros.result 0 [] ++ get_or c.public_hashes-ones.result 0 [] ≡ public_pair seed first bit = rw (zeros, ones) refl in
    let b : get_or c.public_hashes-zeros.result 1 [] ++ get_or c.public_hashes-ones.result 1 [] ≡ public_pair seed (first + 1) bit = rw (zeros, ones) refl in
    let d : get_or c.public_hashes-zeros.result 2 [] ++ get_or c.public_hashes-ones.result 2 [] ≡ public_pair seed (first + 2) bit = rw (zeros, ones) refl in
    let e : get_or c.public_hashes-zeros.result 3 [] ++ get_or c.public_hashes-ones.result 3 [] ≡ public_pair seed (first + 3) bit = rw (zeros, ones) refl in
    have_taken c.take_each.result _ _ _ _
    (same_block _ 0 (texts first) _ _ (c.block_of_pair.ensures ∙ a) (c.take_each.ensures 0 (taken 0 _ refl).0 _ _ (omega arith) (taken 0 _ refl).1 refl (taken 0 _ refl).2))
    (same_block _ 1 (texts (first + 1)) _ _ (c.block_of_pair-2.ensures ∙ b) (c.take_each.ensures 1 (taken 1 _ refl).0 _ _ (omega arith) (taken 1 _ refl).1 refl (taken 1 _ refl).2))
    (same_block _ 2 (texts (first + 2)) _ _ (c.block_of_pair-3.ensures ∙ d) (c.take_each.ensures 2 (taken 2 _ refl).0 _ _ (omega arith) (taken 2 _ refl).1 refl (taken 2 _ refl).2))
    (same_block _ 3 (texts (first + 3)) _ _ (c.block_of_pair-4.ensures ∙ e) (c.take_each.ensures 3 (taken 3 _ refl).0 _ _ (omega arith) (taken 3 _ refl).1 refl (taken 3 _ refl).2))

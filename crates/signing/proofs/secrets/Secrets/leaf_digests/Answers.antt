use Rattle.std.proofs.Common.{◌≡◌, ◌+◌, [], ◌∷◌, arith, refl, sym}
use Rattle.signing.specs.Fours.{public_pair}
use Rattle.signing.specs.Joined.{end_to_end}
use Rattle.signing.proofs.Fours.{by_lanes, have_taken, leaf_at, same_text, state_at}
use Rattle.signing.proofs.Joining.{joined-none, joined_more}
use Rattle.signing.proofs.secrets.Secrets.leaf_digests.Goals as goal

pub loop-bit-init : goal.loop-bit-init
loop-bit-init c =
    have_taken (c.new.result ∷ c.new-2.result ∷ c.new-3.result ∷ c.new-4.result ∷ []) _ _ _ _
    (c.new.result, refl, rw joined-none c.new.ensures)
    (c.new-2.result, refl, rw joined-none c.new-2.ensures)
    (c.new-3.result, refl, rw joined-none c.new-3.ensures)
    (c.new-4.result, refl, rw joined-none c.new-4.ensures)

pub loop-bit-preserved : goal.loop-bit-preserved
loop-bit-preserved c =
    let pairs = public_pair c.args.self.now in
    let bit = c.loop-bit.bit in
    let first = c.args.first in
    let taken = c.take_in_bit-states.ensures (λ leaf. end_to_end bit (pairs leaf)) c.loop-bit.invariant in
    have_taken c.take_in_bit-states.result _ _ _ _
    (same_text _ 0 _ _ (sym (joined_more bit (pairs first))) (taken 0 _ refl))
    (same_text _ 1 _ _ (sym (joined_more bit (pairs (first + 1)))) (taken 1 _ refl))
    (same_text _ 2 _ _ (sym (joined_more bit (pairs (first + 2)))) (taken 2 _ refl))
    (same_text _ 3 _ _ (sym (joined_more bit (pairs (first + 3)))) (taken 3 _ refl))

pub returns : goal.returns
returns c =
    let seed = c.args.self.now in
    let first = c.args.first in
    let all : c.loop-bit.bit ≡ 256 = omega arith in
    let taken = c.loop-bit.invariant in
    by_lanes c.finish_each.result _ _ _ _ (omega arith)
    (leaf_at seed first _ _ 0 all (c.finish_each.ensures 0 _ _ _ refl refl (state_at _ 0 _ _ (taken 0 _ refl))))
    (leaf_at seed (first + 1) _ _ 1 all (c.finish_each.ensures 1 _ _ _ refl refl (state_at _ 1 _ _ (taken 1 _ refl))))
    (leaf_at seed (first + 2) _ _ 2 all (c.finish_each.ensures 2 _ _ _ refl refl (state_at _ 2 _ _ (taken 2 _ refl))))
    (leaf_at seed (first + 3) _ _ 3 all (c.finish_each.ensures 3 _ _ _ refl refl (state_at _ 3 _ _ (taken 3 _ refl))))

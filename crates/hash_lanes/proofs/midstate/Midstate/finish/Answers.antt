use Rattle.std.proofs.Common.{◌≡◌, ℕ, List, ◌+◌, ◌-◌, ◌*◌, ◌/◌, ◌∙◌, length, take, drop, ap, arith, refl, length-drop}
use Rattle.std.proofs.lemmas.List.{take_all}
use Rattle.sha2.specs.Sha256.{hash_after}
use Rattle.hash_lanes.proofs.Finishing.{block_on, finished_tail}
use Rattle.hash_lanes.proofs.midstate.Midstate.finish.Goals as goal

pub taking-init : goal.taking-init
unfolding hash_after
taking-init c = refl

pub taking-preserved : goal.taking-preserved
taking-preserved c =
    let at : ℕ = 64 * c.taking.i in
    let text = c.args.text.now in
    let block : at + 64 - at ≡ 64 = omega arith in
    c.compress.ensures ∙ block_on c.args.self.now.words text _ c.taking.words c.taking.i c.taking.invariant (ap (λ (n : ℕ). take n (drop at text)) block)

pub returns : goal.returns
returns c = λ m after.
    let text = c.args.text.now in
    let n : ℕ = length text / 64 in
    let rest : List ℕ = drop (64 * n) text in
    let ended : c.taking.i ≡ n = omega arith in
    let whole : take (length text - 64 * n) rest ≡ rest = take_all (length text - 64 * n) rest (omega (arith, length-drop (64 * n) text)) in
    let taken : c.taking.words ≡ hash_after c.args.self.now.words text n = c.taking.invariant ∙ ap (hash_after c.args.self.now.words text) ended in
    c.digest.ensures
    ∙ finished_tail c.args.self.now m text _ c.padded-len.result.0 c.take_tail.new.words c.bits_with.result c.padded-len.result.1 after c.bits_with.ensures
    whole c.padded-len.ensures.length c.padded-len.ensures.tail (omega (arith, c.padded-len.ensures.room))
    (c.take_tail.ensures ∙ ap (λ (h : List ℕ). hash_after h (take c.padded-len.result.1 c.padded-len.result.0) (c.padded-len.result.1 / 64)) taken)

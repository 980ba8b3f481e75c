use Rattle.std.proofs.Common.{◌≡◌, ℕ, List, ◌∷◌, ◌+◌, ◌-◌, ◌%◌, length, replicate, take, ap, ◌∙◌, arith}
use Rattle.std.proofs.lemmas.List.{length-replicate}
use Rattle.sha2.proofs.Absorbing256.{padding-take}
use Rattle.hash_lanes.proofs.Writing.{tail_written}
use Rattle.hash_lanes.proofs.tail.padded.Goals as goal

pub returns-clause-tail : goal.returns-clause-tail
returns-clause-tail c =
    let rest = c.args.rest.now in
    let zeros : ℕ = (119 - length rest) % 64 in
    let count : length rest + 1 + zeros - length rest ≡ zeros + 1 = omega arith in
    let second : c.copy_from_slice-2.new.self ≡ 0x80 ∷ replicate zeros 0 =
    c.copy_from_slice-2.ensures.after ∙ ap (λ (n : ℕ). take n (0x80 ∷ replicate 63 0)) count ∙ padding-take 0x80 0 zeros (omega arith) in
    let none : List ℕ = replicate zeros 0 in
    let long : length none ≡ zeros = length-replicate zeros 0 in
    let wide : length c.copy_from_slice-2.new.self ≡ zeros + 1 = ap length second ∙ (omega (arith, long)) in
    tail_written rest _ _ _ (replicate 128 0) c.args.bits _ _ _ c.copy_from_slice.ensures.after second
    (c.copy_from_slice-3.ensures.after ∙ c.to_be_bytes.ensures) (omega arith) (omega arith)

use Rattle.std.proofs.Common.{◌≡◌, ℕ, List, ◌+◌, ◌-◌, ◌*◌, ◌/◌, ◌%◌, ◌^◌, ◌<◌, length, drop, take, ap, refl, sym, ◌∙◌, arith, length-drop}
use Rattle.std.proofs.lemmas.List.{take_all}
use Rattle.sha2.specs.Sha256.{digest_bytes, hash_after}
use Rattle.hash_lanes.specs.declared.midstate.Midstate.{Midstate}
use Rattle.hash_lanes.specs.Midstates.{IsDigestAfter}
use Rattle.hash_lanes.specs.Lanes.{lane}
use Rattle.hash_lanes.proofs.Finishing.{block_on, finished_tail}
use Rattle.hash_lanes.proofs.four.finish_level.Goals as goal

pub taking-init : goal.taking-init
unfolding hash_after
taking-init c = record { shape = c.gather-state.ensures.shape; taken = λ n lt. refl }

pub taking-preserved : goal.taking-preserved
taking-preserved c =
    let at : ℕ = 64 * c.taking.i in
    let text = c.args.text.now in
    let block : at + 64 - at ≡ 64 = omega arith in
    record {
      shape = c.compress_same.ensures.shape;
      taken = λ n lt. c.compress_same.ensures.lanes n lt ∙ block_on _ text _ (lane n c.taking.state) c.taking.i (c.taking.invariant.taken n lt) (ap (λ (k : ℕ). take k (drop at text)) block);
    }

pub returns : goal.returns
returns c =
    let text = c.args.text.now in
    let n : ℕ = length text / 64 in
    let rest : List ℕ = drop (64 * n) text in
    let len : ℕ = c.padded-len.result.1 in
    let bytes : List ℕ = c.padded-len.result.0 in
    let ended : c.taking.i ≡ n = omega arith in
    let whole : take (length text - 64 * n) rest ≡ rest = take_all (length text - 64 * n) rest (omega (arith, length-drop (64 * n) text)) in
    let ends : (l : ℕ) → l < 4 → (s : Midstate) → lane l c.gather-state.result ≡ s.words → s.taken ≡ c.args.a.now.taken
    → (digest : List ℕ) → digest ≡ digest_bytes (lane l c.take_tail.new.state) 8 → IsDigestAfter s text digest =
    λ l lt s words taken digest is m after.
    is
    ∙ finished_tail s m text _ bytes (lane l c.take_tail.new.state) c.bits_with.result len after
    (c.bits_with.ensures ∙ ap (λ (t : ℕ). (t + length text) * 8 % 2 ^ 64) (sym taken)) whole c.padded-len.ensures.length c.padded-len.ensures.tail
    (omega (arith, c.padded-len.ensures.room))
    (c.take_tail.ensures.lanes l lt ∙ ap (λ (h : List ℕ). hash_after h (take len bytes) (len / 64)) (c.taking.invariant.taken l lt ∙ (λ i. hash_after (words i) text (ended i)))) in
    let gives = c.gather-state.ensures in
    let digests = c.digests.ensures in
    record {
      first = ends 0 (omega arith) c.args.a.now (gives.first ∙ c.words.ensures) refl c.digests.result.0 digests.first;
      second = ends 1 (omega arith) c.args.b.now (gives.second ∙ c.words-2.ensures) c.requires.b c.digests.result.1 digests.second;
      third = ends 2 (omega arith) c.args.c.now (gives.third ∙ c.words-3.ensures) c.requires.c c.digests.result.2 digests.third;
      fourth = ends 3 (omega arith) c.args.d.now (gives.fourth ∙ c.words-4.ensures) c.requires.d c.digests.result.3 digests.fourth;
    }

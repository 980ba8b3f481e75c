use Rattle.std.proofs.Common.{◌∙◌}
use Rattle.sha2.specs.Sha256.{compress}
use Rattle.hash_lanes.proofs.Finishing.{taken_block}
use Rattle.hash_lanes.proofs.four.take_next.Goals as goal

pub returns : goal.returns
returns c =
    let gives = c.gather-state.ensures in
    let after = c.compress_each.ensures in
    record {
      first = λ m before. taken_block c.args.a.now c.moved_to.result m c.args.p.now before c.told-p
          (c.moved_to.ensures.words ∙ c.lane_words.ensures ∙ after.first ∙ (λ i. compress ((gives.first ∙ c.words.ensures) i) c.args.p.now)) c.moved_to.ensures.taken;
      second = λ m before. taken_block c.args.b.now c.moved_to-2.result m c.args.q.now before c.told-q
          (c.moved_to-2.ensures.words ∙ c.lane_words-2.ensures ∙ after.second ∙ (λ i. compress ((gives.second ∙ c.words-2.ensures) i) c.args.q.now)) c.moved_to-2.ensures.taken;
      third = λ m before. taken_block c.args.c.now c.moved_to-3.result m c.args.r.now before c.told-r
          (c.moved_to-3.ensures.words ∙ c.lane_words-3.ensures ∙ after.third ∙ (λ i. compress ((gives.third ∙ c.words-3.ensures) i) c.args.r.now)) c.moved_to-3.ensures.taken;
      fourth = λ m before. taken_block c.args.d.now c.moved_to-4.result m c.args.s.now before c.told-s
          (c.moved_to-4.ensures.words ∙ c.lane_words-4.ensures ∙ after.fourth ∙ (λ i. compress ((gives.fourth ∙ c.words-4.ensures) i) c.args.s.now)) c.moved_to-4.ensures.taken;
    }

use Rattle.std.proofs.Common.{◌∙◌}
use Rattle.sha2.specs.Sha256.{compress}
use Rattle.hash_lanes.proofs.Finishing.{short_finished}
use Rattle.hash_lanes.proofs.four.finish_short.Goals as goal

pub returns : goal.returns
returns c =
    let gives = c.gather-state.ensures in
    let after = c.compress_each.ensures in
    let digests = c.digests.ensures in
    record {
      first = λ m before. short_finished c.args.a.now m c.args.p.now _ _ _ before c.requires.p c.last_block-first.ensures (after.first ∙ (λ i. compress ((gives.first ∙ c.words.ensures) i) c.last_block-first.result)) digests.first;
      second = λ m before. short_finished c.args.b.now m c.args.q.now _ _ _ before c.requires.q c.last_block-second.ensures (after.second ∙ (λ i. compress ((gives.second ∙ c.words-2.ensures) i) c.last_block-second.result)) digests.second;
      third = λ m before. short_finished c.args.c.now m c.args.r.now _ _ _ before c.requires.r c.last_block-third.ensures (after.third ∙ (λ i. compress ((gives.third ∙ c.words-3.ensures) i) c.last_block-third.result)) digests.third;
      fourth = λ m before. short_finished c.args.d.now m c.args.s.now _ _ _ before c.requires.s c.last_block-fourth.ensures (after.fourth ∙ (λ i. compress ((gives.fourth ∙ c.words-4.ensures) i) c.last_block-fourth.result)) digests.fourth;
    }

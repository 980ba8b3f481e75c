use Rattle.std.proofs.Common.{◌≡◌, ◌∙◌, sym, ap, subst, arith}
use Rattle.space.specs.Births.{SpaceState, IsState}
use Rattle.reply_cache.specs.Replies.{AreReplies}
use Rattle.execution.proofs.Renewing.{has_none}
use Rattle.execution.proofs.executed.Executed.new.Goals as goal

pub invariant_of-result : goal.invariant_of-result
invariant_of-result c =
    let next : c.of.result.state.next ≡ 0 = ap (λ (s : SpaceState). s.next) (c.of.ensures.state ∙ c.new-2.ensures.state) in
    record {
      state = record {
        space = record { state = subst IsState (sym c.of.ensures.state) c.new-2.ensures.valid; births = omega (arith, next); few = omega arith };
        replies = subst AreReplies (sym c.of-2.ensures.replies) c.new-3.ensures.valid;
      };
      few = c.requires;
      pages = has_none c.of.result c.of-2.result c.in_ok-tree.tree c.in_ok-tree.ensures c.of.ensures.changed c.of-2.ensures.all;
    }

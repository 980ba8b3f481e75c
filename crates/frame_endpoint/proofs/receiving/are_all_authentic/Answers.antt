use Rattle.std.proofs.Common.{◌∙◌, ap, arith}
use Rattle.std.proofs.lemmas.List.{drop_all}
use Rattle.authenticator.specs.Membership.{Membership}
use Rattle.signing.specs.Publics.{knows}
use Rattle.frame_endpoint.proofs.Receptions.{ends, fails, goes_on}
use Rattle.frame_endpoint.proofs.receiving.are_all_authentic.Goals as goal

pub returns-then-not-is_authentic_for-clause-authentic : goal.returns-then-not-is_authentic_for-clause-authentic
returns-then-not-is_authentic_for-clause-authentic c =
    fails (knows c.args.ring.now c.args.publics.now) (knows c.loop-frame.ring c.args.publics.now)
    (ap (λ (m : Membership). knows m c.args.publics.now) c.loop-frame.invariant.same) c.args.me.0 c.args.frames.now c.loop-frame.frame-index _ c.is_authentic_for.result c.loop-frame-test.true
    c.is_authentic_for.ensures.authentic c.if-not-is_authentic_for.true c.loop-frame.invariant.left

pub loop-frame-preserved : goal.loop-frame-preserved
loop-frame-preserved c = record {
  same = c.is_authentic_for.ensures.ring ∙ c.loop-frame.invariant.same;
  left =
      goes_on (knows c.args.ring.now c.args.publics.now) (knows c.loop-frame.ring c.args.publics.now)
      (ap (λ (m : Membership). knows m c.args.publics.now) c.loop-frame.invariant.same) c.args.me.0 c.args.frames.now c.loop-frame.frame-index _ c.is_authentic_for.result c.loop-frame-test.true
      c.is_authentic_for.ensures.authentic c.if-not-is_authentic_for.false c.loop-frame.invariant.left;
}

pub returns-clause-authentic : goal.returns-clause-authentic
returns-clause-authentic c =
    ends (knows c.args.ring.now c.args.publics.now) c.args.me.0 c.args.frames.now c.loop-frame.frame-index (drop_all c.loop-frame.frame-index c.args.frames.now (omega arith)) c.loop-frame.invariant.left

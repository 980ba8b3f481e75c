use Rattle.std.proofs.Common.{◌≡◌, ℕ, subst, arith}
use Rattle.orderer.specs.EnterView.{MulticastsVotesOf}
use Rattle.orderer.proofs.EnteringViews.{no_votes, one_voted}
use Rattle.orderer.proofs.Parties.{party_kept, party_kept_twice}
use Rattle.orderer.proofs.orderer.Orderer.multicast_all_votes.Goals as goal

pub loop-number-init : goal.loop-number-init
loop-number-init c = record { votes = no_votes c.args.start.0 c.args.self.now c.args.outputs.now.items; party = party_kept c.args.self.now }

pub loop-number-preserved : goal.loop-number-preserved
loop-number-preserved c = record {
  votes = one_voted c.args.start.0 c.loop-number.number _ _ _ _ _ _ c.loop-number.invariant.votes c.in_ok-multicast_votes.ensures.ok;
  party = party_kept_twice _ _ _ c.loop-number.invariant.party c.in_ok-multicast_votes.ensures.party;
}

pub returns-in_err-multicast_votes-clause-party : goal.returns-in_err-multicast_votes-clause-party
returns-in_err-multicast_votes-clause-party c = party_kept_twice _ _ _ c.loop-number.invariant.party c.in_err-multicast_votes.ensures.party

pub returns : goal.returns
returns c =
    let most = c.loop-number.auto.number-end c.requires in
    let all = c.loop-number-test.false in
    let whole : c.loop-number.number ≡ c.args.last.0 = omega (arith, most, all) in
    record {
      ok = subst (λ (n : ℕ). MulticastsVotesOf c.args.start.0 n c.args.self.now c.args.outputs.now.items c.loop-number.self c.loop-number.outputs.items) whole c.loop-number.invariant.votes;
      party = c.loop-number.invariant.party;
    }

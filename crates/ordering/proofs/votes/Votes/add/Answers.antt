use Rattle.std.proofs.Common.{rules, ◌≡◌, None}
use Rattle.ordering.specs.Votes.{voted_digest}
use Rattle.ordering.proofs.Voting.{pushed_stay}
use Rattle.ordering.proofs.votes.Votes.add.Goals as goal

pub invariant_of-self : goal.invariant_of-self
invariant_of-self c =
    let new : voted_digest c.self.inside.cast.items c.args.vote.sender.0 ≡ None = search rules in
    pushed_stay c.args.vote c.self.inside.cast c.push_reserved.new.self c.self.invariant.0 c.self.invariant.1 new c.requires c.push_reserved.ensures.items c.push_reserved.ensures.capacity

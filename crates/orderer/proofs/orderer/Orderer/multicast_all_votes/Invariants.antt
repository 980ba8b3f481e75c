use Rattle.orderer.specs.Going.{KeepsParty}
use Rattle.orderer.specs.EnterView.{MulticastsVotesOf}
use Rattle.orderer.proofs.orderer.Orderer.multicast_all_votes.Given as goal

abbrev pub invariant-loop-number : goal.invariant-loop-number
invariant-loop-number l = record {
  votes : MulticastsVotesOf l.fn.start.0 l.number l.initial.self l.initial.outputs.items l.self l.outputs.items;
  party : KeepsParty l.initial.self l.self;
}

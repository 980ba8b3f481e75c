use Rattle.std.proofs.Common.{rules, ◌≡◌, subst, sym}
use Rattle.protocol.specs.Client.RightClient.{IsPromptClient}
use Rattle.space_node.specs.PartyStates.{PartyState}
use Rattle.space_node.proofs.handle_state.HandleState.is_stopped.Goals as goal

pub returns-clause-prompt : goal.returns-clause-prompt
returns-clause-prompt g c =
    let s = c.self.inside in
    let was : c.args.self.now ≡ record { party = s.share.party; history = s.share.history; stopped = s.stopped } = search rules in
    subst (λ (x : PartyState). IsPromptClient g.N.Naming.config x.party x.history) (sym was) c.self.invariant.prompt

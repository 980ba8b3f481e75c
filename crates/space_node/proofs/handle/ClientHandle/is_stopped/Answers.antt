use Rattle.std.proofs.Common.{rules, ◌≡◌, subst, sym}
use Rattle.protocol.specs.Client.RightClient.{IsPromptClient}
use Rattle.space_node.specs.PartyStates.{PartyState}
use Rattle.space_node.proofs.handle.ClientHandle.is_stopped.Goals as goal

pub returns-clause-prompt : goal.returns-clause-prompt
returns-clause-prompt g c =
    let was : c.args.self.now ≡ c.self.inside.state = search rules in
    subst (λ (x : PartyState). IsPromptClient g.N.Naming.config x.party x.history) (sym was) c.is_stopped.ensures.prompt

use Rattle.std.proofs.Common.{subst, sym}
use Rattle.protocol.specs.Replica.Owed.{IsPromptReplica}
use Rattle.journal.specs.Parts.{Part}
use Rattle.space_node.proofs.Parts.{fresh_prompt}
use Rattle.space_node.proofs.replica_share.ReplicaShare.none.Goals as goal

pub returns-clause-prompt : goal.returns-clause-prompt
returns-clause-prompt g c =
    subst (λ (p : Part). IsPromptReplica g.N.Naming.config p.party p.history) (sym c.empty.ensures) (fresh_prompt g.N.Naming.config c.args.replica.0)

use Rattle.std.proofs.Common.{rules, ◌≡◌, sym, ◌∙◌}
use Rattle.partition_tree.specs.Digests.{root_of}
use Rattle.state_transfer.proofs.Determining.{same_pages}
use Rattle.state_transfer.proofs.transfer.Transfer.finish.Goals as goal

pub returns-clause-only : goal.returns-clause-only
returns-clause-only c = λ others all root apart.
    let wanted : root_of c.self.inside.held ≡ c.args.self.now.root = search rules in
    same_pages c.self.inside.held others c.self.invariant.pages all (wanted ∙ sym root) apart

use Rattle.space_node.proofs.Parts.{new_desk}
use Rattle.space_node.proofs.node_desk.NodeDesk.new.Goals as goal

pub invariant_of-result : goal.invariant_of-result
invariant_of-result g c =
    new_desk g.N.Naming.config c.args.desk c.args.share c.requires.replica c.requires.fits c.requires.new

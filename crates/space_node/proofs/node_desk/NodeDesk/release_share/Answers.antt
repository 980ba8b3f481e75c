use Rattle.std.proofs.Common.{rules, ◌≡◌}
use Rattle.journal.specs.Parts.{fresh}
use Rattle.space_node.proofs.Parts.{desk_left}
use Rattle.space_node.proofs.node_desk.NodeDesk.release_share.Goals as goal

pub invariant_of-self : goal.invariant_of-self
invariant_of-self g c =
    let s = c.self.inside in
    let left : c.take-share.new.self ≡ fresh s.share.party = search rules in
    desk_left g.N.Naming.config s.desk c.stop.new.self s.share c.take-share.new.self c.self.invariant c.stop.ensures.keeps left

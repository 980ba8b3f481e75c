use Rattle.std.proofs.Common.{rules, ◌≡◌, ◌∷◌, map, subst, sym}
use Rattle.events.specs.Outputs.{entry_of}
use Rattle.journal.specs.Parts.{AgreeInOrdering, Part, longer_part}
use Rattle.protocol.specs.System.Reads.{without_reads}
use Rattle.replica.specs.Parted.{OrdererFitsHistory}
use Rattle.space_node.specs.PartyStates.{DeskFitsShare, input_of}
use Rattle.space_node.proofs.Parts.{desk_after, orderer_after}
use Rattle.space_node.proofs.node_order.NodeOrder.step.Goals as goal

pub invariant_of-self-in-Ok-record_order : goal.invariant_of-self-in-Ok-record_order
invariant_of-self-in-Ok-record_order g c =
    let o = c.self.inside in
    let s = c.shelf.inside in
    let es = c.in-Ok-entries_of.entries.items in
    let outs = c.in-Ok.outputs.items in
    let are : es ≡ input_of s.share.party c.args.input ∷ map (entry_of s.share.party) outs = search rules in
    let alike : AgreeInOrdering s.share o.order = search rules in
    let kept : c.record_order.new.order ≡ longer_part o.order (without_reads es) = search rules in
    subst (λ (p : Part). OrdererFitsHistory g.N.Naming.config p.party c.step_parts.new.orderer p.history) (sym kept)
    (orderer_after g.N.Naming.config o.orderer c.step_parts.new.orderer s.desk c.step_parts.new.desk s.share o.order c.args.input outs es c.in-Ok.ensures.leads c.shelf.invariant c.self.invariant are alike)

pub invariant_of-shelf-in-Ok-record_order : goal.invariant_of-shelf-in-Ok-record_order
invariant_of-shelf-in-Ok-record_order g c =
    let o = c.self.inside in
    let s = c.shelf.inside in
    let es = c.in-Ok-entries_of.entries.items in
    let outs = c.in-Ok.outputs.items in
    let are : es ≡ input_of s.share.party c.args.input ∷ map (entry_of s.share.party) outs = search rules in
    let alike : AgreeInOrdering s.share o.order = search rules in
    let kept : c.record_order.new.share ≡ longer_part s.share es = search rules in
    subst (λ (p : Part). DeskFitsShare g.N.Naming.config c.step_parts.new.desk p) (sym kept)
    (desk_after g.N.Naming.config o.orderer c.step_parts.new.orderer s.desk c.step_parts.new.desk s.share o.order c.args.input outs es c.in-Ok.ensures.leads c.shelf.invariant c.self.invariant are alike
    c.in-Ok.ensures.desk_runs)

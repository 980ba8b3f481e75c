use Rattle.std.proofs.Common.{rules, ◌≡◌, ◌∷◌, false, map, refl, subst, sym}
use Rattle.std.specs.Prelude.{is_none, Ok}
use Rattle.protocol.specs.System.Trace.Entry.{Got}
use Rattle.events.specs.Outputs.{entry_of}
use Rattle.events.specs.declared.output.Stop.TheVariants.{Stopped}
use Rattle.journal.specs.Parts.{Part, longer_part}
use Rattle.replica.specs.Parted.{ReadLeads}
use Rattle.replica.specs.State.{DeskPart}
use Rattle.space_node.specs.PartyStates.{DeskFitsShare}
use Rattle.space_node.proofs.Parts.{desk_after_read, runs_on}
use Rattle.space_node.proofs.node_desk.NodeDesk.read.Goals as goal

pub invariant_of-self-in-Ok-record : goal.invariant_of-self-in-Ok-record
invariant_of-self-in-Ok-record g c =
    let s = c.self.inside in
    let es = c.in-Ok-entries_of.entries.items in
    let outs = c.in-Ok.outputs.items in
    let later = c.read.new.self in
    let are : es ≡ Got s.share.party c.args.bytes ∷ map (entry_of s.share.party) outs = search rules in
    let kept : c.record.new.share ≡ longer_part s.share es = search rules in
    let same : later ≡ s.desk = c.in-Ok.ensures.same in
    let on : is_none later.holds ≡ false =
    subst (λ (d : DeskPart). is_none d.holds ≡ false) (sym same) (runs_on s.desk (Ok c.in-Ok.outputs) Stopped c.in-Ok.outputs c.in-Ok.ensures.before.1 refl) in
    let leads : ReadLeads s.desk c.args.bytes outs later = search rules in
    subst (λ (p : Part). DeskFitsShare g.N.Naming.config later p) (sym kept)
    (desk_after_read g.N.Naming.config s.desk later s.share c.args.bytes outs es leads c.self.invariant are on)

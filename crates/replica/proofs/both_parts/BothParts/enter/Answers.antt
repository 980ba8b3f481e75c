use Rattle.std.proofs.Common.{rules, ◌≡◌, ℕ, ◌+◌, List, length, sym, ap, ◌∙◌, subst, option_map}
use Rattle.std.specs.Arc.{arc_value}
use Rattle.std.proofs.lemmas.List.{length-map}
use Rattle.std.proofs.lemmas.Result.{on_ok_weaker}
use Rattle.wire_format.specs.Messages.{CheckpointEntryData as CheckpointEntry}
use Rattle.view_change.specs.Sets.{texts_of}
use Rattle.replica.specs.State.{BothPartsData}
use Rattle.replica.specs.BothPartsView.{both_parts_data}
use Rattle.orderer.specs.EnterView.{MulticastsVotesOf, entering}
use Rattle.replica.specs.EnteringViews.{FetchesStart}
use Rattle.desk.specs.Assigned.{NotesAssigned}
use Rattle.replica.specs.Marking.{MovesMarks}
use Rattle.replica.proofs.EnteringViews.{enters_all}
use Rattle.replica.proofs.both_parts.BothParts.enter.Goals as goal

pub returns-clause-ok : goal.returns-clause-ok
returns-clause-ok c =
    let start : CheckpointEntry = record { number = c.args.selection.start.0; digest = c.args.selection.root } in
    let texts : List (List ℕ) = texts_of c.args.selection.batches.items in
    let counted : c.len.result ≡ length c.args.selection.batches.items = search rules in
    let many : c.len.result ≡ length texts = counted ∙ sym (length-map c.args.selection.batches.items arc_value) in
    rw (← c.self.view_is)
    (on_ok_weaker c.multicast_all_votes.result
    (λ votes. enters_all c.args.view.0 start texts (option_map (λ frame. frame.items) c.args.own) (both_parts_data c.self.inside) c.note_assigned.new.self c.enter.new.self
    (both_parts_data c.self-2.inside) c.log_assigned.new.self (both_parts_data c.self-3.inside) c.multicast_all_votes.new.self c.args.outputs.now.items c.fetch_start.new.outputs.items c.multicast_all_votes.new.outputs.items
    (subst (λ items. NotesAssigned (texts_of items) c.self.inside.desk c.note_assigned.new.self) c.deref.ensures.value c.in_ok-note_assigned.ensures.ok)
    (c.enter.ensures ∙ ap (λ (n : ℕ). entering c.args.view.0 (c.args.selection.start.0 + n) (option_map (λ frame. frame.items) c.args.own) c.self.inside.orderer) many)
    (subst (λ (r : BothPartsData). MovesMarks start.number (record (both_parts_data c.self.inside) { orderer = c.enter.new.self; desk = c.note_assigned.new.self }) r) (sym c.self-2.view_is) c.move_marks.ensures.moves)
    c.in_ok-log_assigned.ensures.ok
    (subst (λ (r : BothPartsData). FetchesStart start (record (both_parts_data c.self-2.inside) { orderer = c.log_assigned.new.self }) c.args.outputs.now.items r c.fetch_start.new.outputs.items) (sym c.self-3.view_is)
    c.in_ok-fetch_start.ensures.ok)
    (subst (λ (n : ℕ). MulticastsVotesOf start.number (start.number + n) c.self-3.inside.orderer c.fetch_start.new.outputs.items c.multicast_all_votes.new.self c.multicast_all_votes.new.outputs.items) many votes))
    c.multicast_all_votes.ensures.ok)

use Rattle.std.proofs.Common.{true, Option, option_map, subst}
use Rattle.wire_format.specs.declared.messages.CheckpointEntry.{CheckpointEntry}
use Rattle.wire_format.specs.Views.{checkpoint_entry_data}
use Rattle.replica.specs.State.{BothPartsData}
use Rattle.replica.specs.Fetching.{InstallsFetchedState}
use Rattle.desk.specs.Fetching.{InstallsHeldPages}
use Rattle.replica.proofs.both_parts.BothParts.install.Goals as goal

pub returns-clause-ok : goal.returns-clause-ok
returns-clause-ok c =
    let desk = c.install.new.self in
    let before = c.args.outputs.now.items in
    let after = c.emit.new.outputs.items in
    subst (λ (r : BothPartsData). InstallsFetchedState r before c.move_marks.new.self after true) c.self.view_is (
      desk,
      c.in-Some.entry.number,
      c.in-Some.entry.digest,
      subst (λ (o : Option CheckpointEntry). InstallsHeldPages c.self.inside.desk desk (option_map checkpoint_entry_data o))
          c.in-Some.is c.in_ok-entry.ensures.ok,
      c.in_ok-emit.ensures.given,
      c.move_marks.ensures.moves,
    )

use Rattle.std.proofs.Common.{map, sym}
use Rattle.wire_format.specs.Views.{batch_text}
use Rattle.view_change.specs.Sets.{sized, changes_by_sender}
use Rattle.view_change.proofs.Starting.{start_is_number}
use Rattle.view_change.proofs.checking.meets.Goals as goal

pub returns-then-new-ge-END : goal.returns-then-new-ge-END
returns-then-new-ge-END c =
    sym (start_is_number (sized c.args.sizes) c.args.new.now.view.0 (changes_by_sender c.args.set.now) c.args.new.now.start.0 c.args.new.now.root (map batch_text c.args.new.now.batches.items) c.requires c.if-new-ge-END.true)

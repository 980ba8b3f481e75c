use Rattle.std.proofs.Common.{arith}
use Rattle.wire_format.specs.Views.{checkpoint_entry_data}
use Rattle.view_change.specs.declared.changes.Selection.{Selection}
use Rattle.view_change.specs.Filling.{SelectsBelow, NothingBelow}
use Rattle.view_change.specs.Sets.{sized, changes_by_sender, texts_of}
use Rattle.view_change.proofs.Starting.{found_start, no_starts, none_below, on_selected, selected_below, some_below}
use Rattle.view_change.proofs.selecting.+select_below.Goals as goal

pub returns-in_default : goal.returns-in_default
returns-in_default t c = no_starts (sized c.args.sizes) c.args.view.0 (changes_by_sender c.args.set.now) (texts_of c.args.held.now) c.args.limit c.in_default.ensures

pub fill-requires-clause-start : goal.fill-requires-clause-start
fill-requires-clause-start t c =
    let less = (found_start (sized c.args.sizes) (changes_by_sender c.args.set.now) c.args.limit (checkpoint_entry_data c.in-Some.entry) c.in-Some.ensures).less in
    let limit = c.requires.limit in
    omega (arith, less, limit)

pub select_below-requires : goal.select_below-requires
select_below-requires t c =
    let less = (found_start (sized c.args.sizes) (changes_by_sender c.args.set.now) c.args.limit (checkpoint_entry_data c.in-Some.entry) c.in-Some.ensures).less in
    let limit = c.requires.limit in
    let measure = c.decreases in
    (omega (arith, less, measure), (c.requires.set, (omega (arith, less, limit), c.requires.null)))

pub returns-in-Some-2 : goal.returns-in-Some-2
returns-in-Some-2 t c =
    rw c.selection_from.ensures.start (rw c.selection_from.ensures.root (rw c.selection_from.ensures.batches
    (selected_below (sized c.args.sizes) c.args.view.0 (changes_by_sender c.args.set.now) (texts_of c.args.held.now) c.args.limit (checkpoint_entry_data c.in-Some.entry) (texts_of c.in-Some-2.batches.items) c.in-Some.ensures
    (rw c.in-Some-2.is at c.in_ok-batches.ensures))))

pub returns-in-None : goal.returns-in-None
returns-in-None t c =
    let k = sized c.args.sizes in
    let set = changes_by_sender c.args.set.now in
    let texts = texts_of c.args.held.now in
    let entry = checkpoint_entry_data c.in-Some.entry in
    let none = (rw c.in-None.is at c.in_ok-batches.ensures) in
    on_selected (NothingBelow k c.args.view.0 set texts entry.number) (NothingBelow k c.args.view.0 set texts c.args.limit)
    (λ (s : Selection). SelectsBelow k c.args.view.0 set texts entry.number s.start.0 s.root (texts_of s.batches.items))
    (λ (s : Selection). SelectsBelow k c.args.view.0 set texts c.args.limit s.start.0 s.root (texts_of s.batches.items))
    (λ below. none_below k c.args.view.0 set texts c.args.limit entry c.in-Some.ensures none below)
    (λ s below. some_below k c.args.view.0 set texts c.args.limit entry s.start.0 s.root (texts_of s.batches.items) c.in-Some.ensures none below)
    c.select_below.result c.select_below.ensures

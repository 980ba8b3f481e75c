use Rattle.std.proofs.Common.{rules, ◌≡◌, true, false, map}
use Rattle.std.specs.List.{insert}
use Rattle.wire_format.specs.Views.{checkpoint_entry_data}
use Rattle.ordering.specs.Places.{place_in, stands_at}
use Rattle.ordering.proofs.Placing.{put, stays}
use Rattle.ordering.proofs.checkpoints.Checkpoints.add.Goals as goal

pub returns-then-is_at : goal.returns-then-is_at
returns-then-is_at c =
    let p : c.place_of-place.result ≡ place_in c.args.entry.number.0 (map checkpoint_entry_data c.self.inside.entries.items) = cc in
    let s : stands_at c.place_of-place.result c.args.entry.number.0 (map checkpoint_entry_data c.self.inside.entries.items) ≡ true = cc in
    stays c.args.entry c.self.inside.entries.items c.place_of-place.result c.args.self.now c.self.view_is c.self.invariant.0 p s

pub returns-then-is_ok : goal.returns-then-is_ok
returns-then-is_ok c =
    let p : c.place_of-place.result ≡ place_in c.args.entry.number.0 (map checkpoint_entry_data c.self.inside.entries.items) = cc in
    let s : stands_at c.place_of-place.result c.args.entry.number.0 (map checkpoint_entry_data c.self.inside.entries.items) ≡ false = cc in
    let i : c.insert.new.self.items ≡ insert c.self.inside.entries.items c.place_of-place.result c.args.entry = search rules in
    put c.args.entry c.self.inside.entries.items c.insert.new.self.items c.truncate.new.self.items c.place_of-place.result c.args.self.now c.self.view_is p s i c.truncate.ensures.items

use Rattle.std.proofs.Common.{◌≡◌}
use Rattle.std.specs.Vec.Iter.{into_iter_items}
use Rattle.desk.proofs.Running.{RepliesLeft}
use Rattle.desk.proofs.desk.Desk.reply_to_all.Given as goal

abbrev pub invariant-loop-it : goal.invariant-loop-it
invariant-loop-it l = record {
  can_next : (goal.iterator-loop-it).can_next l.it-iterator;
  is_finite : (goal.iterator-loop-it).is_finite l.it-iterator;
  same : l.self ≡ l.initial.self;
  replies : RepliesLeft l.initial.self l.fn.ran.items l.initial.outputs.items (into_iter_items l.it-iterator) l.outputs.items;
}

use Rattle.std.proofs.Common.{◌≡◌, ◌≤◌, length}
use Rattle.reply_cache.specs.ReplyView.{padded, AreSlots}
use Rattle.reply_cache.proofs.cache.reach.Given as goal

-- the slots stand for what they stood for
abbrev pub invariant-loop-slot : goal.invariant-loop-slot
invariant-loop-slot l = record {
  same : padded l.slots.items ≡ padded l.initial.slots.items;
  valid : AreSlots l.slots.items;
  at : length l.slots.items ≡ l._slot;
  grown : length l.initial.slots.items ≤ length l.slots.items;
}

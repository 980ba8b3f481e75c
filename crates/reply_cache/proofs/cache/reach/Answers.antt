use Rattle.std.proofs.Common.{None, ◌≡◌, ◌++◌, ◌∷◌, [], ◌∙◌, arith}
use Rattle.std.proofs.lemmas.List.{length_push}
use Rattle.reply_cache.proofs.Slots.{padded_push, AreSlots_push}
use Rattle.reply_cache.proofs.cache.reach.Goals as goal

pub loop-slot-preserved : goal.loop-slot-preserved
loop-slot-preserved c =
    let slots = c.loop-slot.slots.items in
    let few = c.requires.client in
    let at = c.loop-slot.invariant.at in
    let new : c.push.new.self.items ≡ slots ++ None ∷ [] = (c.in_ok-push.ensures {u = tt}).items in
    rw new (record {
      same = padded_push slots (omega arith) ∙ c.loop-slot.invariant.same;
      valid = AreSlots_push slots (omega arith) c.loop-slot.invariant.valid;
      at = length_push slots None ∙ omega arith;
      grown = let grown = c.loop-slot.invariant.grown in omega (arith, length_push slots None);
    })

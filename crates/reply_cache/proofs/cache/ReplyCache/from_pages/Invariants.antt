use Rattle.std.proofs.Common.{map}
use Rattle.reply_cache.specs.Reading.{AreRead}
use Rattle.reply_cache.proofs.cache.ReplyCache.from_pages.Given as goal

-- the texts that were read spell the slots
abbrev pub invariant-loop-text : goal.invariant-loop-text
invariant-loop-text l = AreRead (map (λ page. page.now) l.pages) l.slots.items l.text-index

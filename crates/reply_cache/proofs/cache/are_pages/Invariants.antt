use Rattle.std.proofs.Common.{map}
use Rattle.reply_cache.specs.Reading.{EachSpelled}
use Rattle.reply_cache.proofs.cache.are_pages.Given as goal

-- the texts that were read are those of pages
abbrev pub invariant-loop-text : goal.invariant-loop-text
invariant-loop-text l = EachSpelled (map (λ page. page.now) l.pages) l.text-index

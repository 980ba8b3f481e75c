use Rattle.std.proofs.Common.{ap, sym, subst, ◌∙◌}
use Rattle.reply_cache.specs.Replies.{AreReplies}
use Rattle.reply_cache.specs.ReplyView.{padded}
use Rattle.reply_cache.proofs.Slots.{padded-none, AreReplies-none}
use Rattle.reply_cache.proofs.cache.ReplyCache.new.Goals as goal

pub returns-clause-replies : goal.returns-clause-replies
returns-clause-replies c = ap padded c.new-slots.ensures.items ∙ padded-none

pub returns-clause-valid : goal.returns-clause-valid
returns-clause-valid c = subst AreReplies (sym (ap padded c.new-slots.ensures.items ∙ padded-none)) AreReplies-none

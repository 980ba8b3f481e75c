use Rattle.reply_cache.proofs.Slots.{AreReplies-with}
use Rattle.reply_cache.proofs.laws.replies_stay_replies.Goals as goal

pub returns : goal.returns
returns c = AreReplies-with

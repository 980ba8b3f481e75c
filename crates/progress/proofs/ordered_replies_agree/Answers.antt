use Rattle.progress.proofs.Replies
use Rattle.progress.proofs.ordered_replies_agree.Goals as goal

pub returns : goal.returns
returns c = record { agree = Replies.ordered_replies_agree }

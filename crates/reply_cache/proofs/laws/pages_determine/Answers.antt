use Rattle.reply_cache.proofs.Determining.{pages_determine}
use Rattle.reply_cache.proofs.laws.pages_determine.Goals as goal

pub returns : goal.returns
returns c = pages_determine

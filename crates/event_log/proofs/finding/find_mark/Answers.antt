use Rattle.std.proofs.Common.{List, ℕ, subst}
use Rattle.memchr.specs.Find.{FindsNeedle}
use Rattle.event_log.proofs.finding.find_mark.Goals as goal

pub returns : goal.returns
returns c = subst (λ (l : List ℕ). FindsNeedle c.args.window.now l 0 c.find.result) c.to_be_bytes.ensures c.find.ensures

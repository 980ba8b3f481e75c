use Rattle.std.proofs.Common.{false, replicate, arith}
use Rattle.std.proofs.lemmas.List.{get_or-replicate}
use Rattle.space.specs.Watching.{WatchedState}
use Rattle.space.proofs.Touching.{is_untouched}
use Rattle.space.proofs.watched.Watched.untouch.Goals as goal

pub invariant_of-self : goal.invariant_of-self
invariant_of-self c = λ page l h. omega (arith, c.page_counts.ensures page l)

pub returns-clause-none : goal.returns-clause-none
returns-clause-none c = λ page l.
    let new : WatchedState = record { state = c.self.inside.space; changed = replicate 256 false; written = c.page_counts.result.now } in
    is_untouched new page (get_or-replicate 256 page false false l) (c.page_counts.ensures page l)

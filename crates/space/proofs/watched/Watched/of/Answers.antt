use Rattle.std.proofs.Common.{◌≡◌, true, false, sym, ◌∙◌}
use Rattle.std.proofs.lemmas.Bool.{or_left}
use Rattle.std.proofs.lemmas.List.{get_or-replicate}
use Rattle.space.proofs.watched.Watched.of.Goals as goal

pub invariant_of-result : goal.invariant_of-result
invariant_of-result c = λ page l h. absurd (let bad : true ≡ false = sym (get_or-replicate 256 page true false l) ∙ h in cc)

pub returns-clause-all : goal.returns-clause-all
returns-clause-all c = λ page l. or_left _ _ (get_or-replicate 256 page true false l)

pub returns-clause-changed : goal.returns-clause-changed
returns-clause-changed c = λ page l. get_or-replicate 256 page true false l

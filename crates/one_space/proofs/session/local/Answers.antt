use Rattle.space.specs.Applying.{nothing_in}
use Rattle.space.specs.Births.{tuples_of}
use Rattle.one_space.proofs.RunLemmas.{each_known, strict_ends}
use Rattle.one_space.proofs.session.local.Goals as goal

pub returns-in-Ok : goal.returns-in-Ok
returns-in-Ok g c =
    each_known _ _ _ (λ bytes runs. strict_ends (nothing_in c.args.version) bytes _ _ (tuples_of c.in-Ok.ended.space) c.in-Ok.ended.refused runs) (c.in-Ok.ensures {u = tt})

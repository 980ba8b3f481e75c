use Rattle.std.proofs.Common.{subst, sym}
use Rattle.std.proofs.lemmas.Result.{err_from_is_err_and}
use Rattle.party_keys.specs.Reading.{IsFoundSeed}
use Rattle.party_keys.proofs.Refusals.{because}
use Rattle.party_keys.proofs.reading.own_seed.Goals as goal

pub returns-in_err-seed-in-Some-Replica : goal.returns-in_err-seed-in-Some-Replica
returns-in_err-seed-in-Some-Replica c =
    let p = err_from_is_err_and c.from_residual.result c.from_residual.ensures.1 in
    let found = c.in-Some-Replica.ensures {u = tt} in
    rw (p.1, p.2) (because c.in_err-seed-in-Some-Replica.field-0.0
    (λ none seed has own. let it = subst (IsFoundSeed seed) (sym found) (rw (sym c.name.ensures) at has) in none it.0 it.2)
    (c.in_err-seed-in-Some-Replica.ensures {u = tt}))

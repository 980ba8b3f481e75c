use Rattle.std.proofs.Common.{arith, ap, ◌∙◌, ◌≤◌, ◌*◌, ◌/◌, ◌^◌, min}
use Rattle.patience.proofs.Shortest.{few_doublings, power_fits}
use Rattle.patience.proofs.patience.shortest_after.Goals as goal

pub returns : goal.returns
returns c =
    let few : c.min-doublings.result ≤ 20 = omega (arith, c.min-doublings.ensures) in
    let fits = power_fits c.min-doublings.result few in
    c.min.ensures ∙ ap (λ n. min n 1073741824) (omega (arith, fits)) ∙ ap (λ k. min (2000 * 2 ^ k) 1073741824) c.min-doublings.ensures ∙ few_doublings (c.args.costly / 4)

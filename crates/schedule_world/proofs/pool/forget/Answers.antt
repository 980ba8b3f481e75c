use Rattle.std.proofs.Common.{◌∙◌, ◌==◌, not, map, ap, rules}
use Rattle.std.proofs.lemmas.Fn.{filter_same}
use Rattle.terms.specs.Parties.{party_number}
use Rattle.schedule_world.proofs.Serving.{map_filter}
use Rattle.schedule_world.proofs.pool.forget.Goals as goal

pub returns : goal.returns
returns c =
    ap (map party_number) (filter_same _ (λ q. not (party_number q == party_number c.args.party)) _ (λ x b f' k. search rules) _ _ c.retain.ensures.filtered)
    ∙ map_filter party_number (λ n. not (n == party_number c.args.party)) _

use Rattle.std.proofs.Common.{◌∙◌, map, ap, rules}
use Rattle.std.proofs.lemmas.Fn.{filter_same}
use Rattle.terms.specs.Parties.{party_number}
use Rattle.protocol.specs.System.Configuration.{is_correct}
use Rattle.schedule_world.proofs.Serving.{map_filter}
use Rattle.schedule_world.proofs.receivers.keep_correct.Goals as goal

pub returns : goal.returns
returns c =
    ap (map party_number) (filter_same _ (λ q. is_correct c.args.config.now (party_number q)) _ (λ x b f' k. search rules) _ _ c.retain.ensures.filtered)
    ∙ map_filter party_number (is_correct c.args.config.now) _

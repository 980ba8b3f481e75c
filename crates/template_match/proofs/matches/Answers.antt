use Rattle.std.proofs.Common.{sym, ◌∙◌}
use Rattle.template_match.proofs.Deciding.{is_match-decides}
use Rattle.template_match.proofs.matches.Goals as goal

pub returns-clause-relation : goal.returns-clause-relation
returns-clause-relation g c = let d = is_match-decides c.args.template.now c.args.tuple.now in (λ h. d.0 (sym c.walks_match.ensures ∙ h), λ m. c.walks_match.ensures ∙ d.1 m)

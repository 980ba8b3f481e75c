use Rattle.std.proofs.Common.{sym, ap, subst, ◌∙◌}
use Rattle.space.specs.Births.{SpaceState, IsState, oldest_births}
use Rattle.space.specs.Candidates.{candidates_of}
use Rattle.space.specs.Found.{entries_at}
use Rattle.space.proofs.Storing.{births_among}
use Rattle.space.proofs.tuples.Space.oldest_births.Goals as goal

pub returns-clause-value : goal.returns-clause-value
returns-clause-value g c =
    let s : SpaceState = record { version = c.self.inside.version; entries = c.self.inside.tuples.entries; next = c.self.inside.next } in
    let h = c.self.invariant.counts.state in
    let p = c.args.template.now in
    let n = c.args.max.count in
    c.births_of_matches.ensures
    ∙ ap (λ bs. oldest_births n p (entries_at s.entries bs)) (c.candidates-births.ensures ∙ sym (ap (candidates_of p) c.self.view_is))
    ∙ births_among s h p n ∙ ap (λ (x : SpaceState). oldest_births n p x.entries) c.self.view_is

pub returns-clause-valid : goal.returns-clause-valid
returns-clause-valid g c = subst IsState c.self.view_is c.self.invariant.counts.state

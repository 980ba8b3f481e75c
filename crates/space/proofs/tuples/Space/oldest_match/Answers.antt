use Rattle.std.proofs.Common.{sym, ap, subst, ◌∙◌}
use Rattle.std.specs.Prelude.{find}
use Rattle.template_match.specs.Tests.{is_match}
use Rattle.space.specs.Births.{BornTuple, SpaceState, IsState}
use Rattle.space.specs.Candidates.{candidates_of}
use Rattle.space.specs.Found.{entries_at}
use Rattle.space.proofs.Storing.{found_among}
use Rattle.space.proofs.tuples.Space.oldest_match.Goals as goal

pub returns-clause-value : goal.returns-clause-value
returns-clause-value g c =
    let s : SpaceState = record { version = c.self.inside.version; entries = c.self.inside.tuples.entries; next = c.self.inside.next } in
    let h = c.self.invariant.counts.state in
    let p = c.args.template.now in
    c.oldest_match.ensures
    ∙ ap (λ bs. find (λ (e : BornTuple). is_match p e.1) (entries_at s.entries bs)) (c.candidates-births.ensures ∙ sym (ap (candidates_of p) c.self.view_is))
    ∙ found_among s h p ∙ ap (λ (x : SpaceState). find (λ (e : BornTuple). is_match p e.1) x.entries) c.self.view_is

pub returns-clause-valid : goal.returns-clause-valid
returns-clause-valid g c = subst IsState c.self.view_is c.self.invariant.counts.state

use Rattle.std.proofs.Common.{◌≡◌, ◌≢◌, [], take, map, sym, ap, subst, ◌∙◌}
use Rattle.std.specs.Prelude.{filter}
use Rattle.tuple_codec.specs.Operations.{all}
use Rattle.template_match.specs.Tests.{is_match}
use Rattle.space.specs.Births.{BornTuple, SpaceState, tuples_of}
use Rattle.space.specs.Candidates.{candidates_of}
use Rattle.space.specs.Found.{entries_at}
use Rattle.space.proofs.Finding.{on_err, some_matched}
use Rattle.space.proofs.Storing.{matches_among}
use Rattle.space.proofs.tuples.Space.read_all.Goals as goal

pub returns-clause-value : goal.returns-clause-value
returns-clause-value g c =
    let s : SpaceState = record { version = c.self.inside.version; entries = c.self.inside.tuples.entries; next = c.self.inside.next } in
    let h = c.self.invariant.counts.state in
    let p = c.args.template.now in
    let n = c.args.max.count in
    ap all (c.in_ok-copies.ensures {u = tt}).value
    ∙ ap (λ ts. all (take n ts))
    (ap (λ bs. filter (is_match p) (map (λ (e : BornTuple). e.1) (entries_at s.entries bs))) (c.candidates-births.ensures ∙ sym (ap (candidates_of p) c.self.view_is))
    ∙ matches_among s h p ∙ ap (λ (x : SpaceState). filter (is_match p) (tuples_of x).tuples) c.self.view_is)

pub returns-in_err-copies-clause-memory : goal.returns-in_err-copies-clause-memory
returns-in_err-copies-clause-memory g c =
    let s : SpaceState = record { version = c.self.inside.version; entries = c.self.inside.tuples.entries; next = c.self.inside.next } in
    let p = c.args.template.now in
    let same : filter (is_match p) (map (λ (e : BornTuple). e.1) (entries_at s.entries c.candidates-births.result.now)) ≡ filter (is_match p) (tuples_of c.args.self.now).tuples =
    ap (λ bs. filter (is_match p) (map (λ (e : BornTuple). e.1) (entries_at s.entries bs))) (c.candidates-births.ensures ∙ sym (ap (candidates_of p) c.self.view_is))
    ∙ matches_among s c.self.invariant.counts.state p ∙ ap (λ (x : SpaceState). filter (is_match p) (tuples_of x).tuples) c.self.view_is in
    on_err c.from_residual.result (some_matched p (tuples_of c.args.self.now).tuples (subst (λ ts. ts ≢ []) same (c.in_err-copies.ensures {u = tt}).memory))

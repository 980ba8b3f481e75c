use Rattle.std.proofs.Common.{◌≡◌, [], get_or, ap, sym, ◌∙◌}
use Rattle.std.proofs.lemmas.Bool.Decides.{Decides-eqb}
use Rattle.std.proofs.lemmas.Slice.Eq.{slice_eq-Decides}
use Rattle.partition_tree.proofs.Holding.{set_there}
use Rattle.partition_tree.proofs.parts.change.Goals as goal

pub returns-then-eq-clause-ok : goal.returns-then-eq-clause-ok
returns-then-eq-clause-ok c =
    let same : c.page.result.now ≡ c.as_slice.result.now = (slice_eq-Decides Decides-eqb _ _ _ c.eq.ensures).0 c.if-eq.true in
    set_there _ c.args.child [] c.args.text.items (sym (c.page.ensures ∙ ap (λ part. get_or part c.args.child []) c.deref.ensures) ∙ (same ∙ c.as_slice.ensures.value))

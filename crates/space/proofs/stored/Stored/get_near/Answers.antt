use Rattle.std.proofs.Common.{◌≡◌, None, ap, sym, subst, ◌∙◌}
use Rattle.std.specs.Prelude.{◌==◌}
use Rattle.std.specs.Ordering.{nat_cmp}
use Rattle.std.specs.Map.{lookup}
use Rattle.std.specs.BTreeMap.{is_at}
use Rattle.space.specs.Stored.{LiesAt}
use Rattle.space.proofs.InOrder.{lookup-in_order}
use Rattle.space.proofs.Places.{found_there}
use Rattle.space.proofs.stored.Stored.get_near.Goals as goal

pub returns-in-Some : goal.returns-in-Some
returns-in-Some c =
    let es = c.self.inside.entries.items in
    let here : LiesAt es c.args.birth c.in-Some.place = subst (λ xs. LiesAt xs c.args.birth c.in-Some.place) c.as_slice.ensures.value c.in-Some.ensures in
    record {
      value = sym (found_there es c.in-Some.place c.args.birth c.index.result.now c.self.invariant.apart here c.index.ensures)
          ∙ sym (lookup-in_order es c.args.birth) ∙ ap (λ s. lookup (is_at (nat_cmp c.args.birth)) s.entries) c.self.view_is;
    }

pub returns-in-None : goal.returns-in-None
returns-in-None c =
    let es = c.self.inside.entries.items in
    let no : lookup (λ k. c.args.birth == k) es ≡ None = subst (λ xs. lookup (λ k. c.args.birth == k) xs ≡ None) c.as_slice.ensures.value c.in-None.ensures in
    record {
      value = sym no ∙ sym (lookup-in_order es c.args.birth) ∙ ap (λ s. lookup (is_at (nat_cmp c.args.birth)) s.entries) c.self.view_is;
    }

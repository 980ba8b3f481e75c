use Rattle.std.proofs.Common.{◌≡◌, ℕ, None, map, arith, ap, sym, subst, ◌∙◌}
use Rattle.std.specs.Prelude.{◌==◌}
use Rattle.std.specs.Ordering.{nat_cmp}
use Rattle.std.specs.Map.{lookup, remove_entry}
use Rattle.std.specs.BTreeMap.{is_at}
use Rattle.space.specs.Prints.{entry_label}
use Rattle.space.specs.Stored.{LiesAt, AreApart}
use Rattle.space.proofs.InOrder.{Puts, lookup-in_order, removed_in_order}
use Rattle.space.proofs.Printed.{as_many, labels_left}
use Rattle.space.proofs.Places.{there, found_there, taken_out, distinct_left, nothing_out}
use Rattle.space.proofs.stored.Stored.remove.Goals as goal

pub swap_remove-requires : goal.swap_remove-requires
swap_remove-requires c =
    let es = c.self.inside.entries.items in
    let here : LiesAt es c.args.birth c.in-Some.place = subst (λ xs. LiesAt xs c.args.birth c.in-Some.place) c.as_slice.ensures.value c.in-Some.ensures in
    let many = as_many es c.self.inside.labels.items c.self.invariant.kept in
    let within = here.within in
    omega arith

pub invariant_of-self : goal.invariant_of-self
invariant_of-self c =
    let es = c.self.inside.entries.items in
    let here : LiesAt es c.args.birth c.in-Some.place = subst (λ xs. LiesAt xs c.args.birth c.in-Some.place) c.as_slice.ensures.value c.in-Some.ensures in
    record {
      apart =
          subst AreApart (sym c.swap_remove-tuple.ensures.items)
          (distinct_left es c.in-Some.place c.swap_remove-tuple.result c.self.invariant.apart here.within c.swap_remove-tuple.ensures.value);
      kept =
          c.swap_remove.ensures.items ∙ labels_left es c.self.inside.labels.items c.in-Some.place c.swap_remove-tuple.result c.swap_remove.result c.self.invariant.kept here.within
          ∙ ap (map entry_label) (sym c.swap_remove-tuple.ensures.items);
    }

pub returns-in-Some-clause-value : goal.returns-in-Some-clause-value
returns-in-Some-clause-value c =
    let es = c.self.inside.entries.items in
    let here : LiesAt es c.args.birth c.in-Some.place = subst (λ xs. LiesAt xs c.args.birth c.in-Some.place) c.as_slice.ensures.value c.in-Some.ensures in
    sym (found_there es c.in-Some.place c.args.birth c.swap_remove-tuple.result c.self.invariant.apart here c.swap_remove-tuple.ensures.value)
    ∙ sym (lookup-in_order es c.args.birth) ∙ ap (λ s. lookup (is_at (nat_cmp c.args.birth)) s.entries) c.self.view_is

pub returns-in-Some-clause-entries : goal.returns-in-Some-clause-entries
returns-in-Some-clause-entries c =
    let es = c.self.inside.entries.items in
    let e = c.swap_remove-tuple.result in
    let new = c.swap_remove-tuple.new.self.items in
    let here : LiesAt es c.args.birth c.in-Some.place = subst (λ xs. LiesAt xs c.args.birth c.in-Some.place) c.as_slice.ensures.value c.in-Some.ensures in
    let taken : Puts es new e.0 None =
    subst (λ xs. Puts es xs e.0 None) (sym c.swap_remove-tuple.ensures.items) (taken_out es c.in-Some.place e c.self.invariant.apart here.within c.swap_remove-tuple.ensures.value) in
    removed_in_order es new c.args.birth
    (subst (λ (n : ℕ). Puts es new n None) (there es c.in-Some.place c.args.birth e here c.swap_remove-tuple.ensures.value) taken)
    ∙ ap (λ s. remove_entry (is_at (nat_cmp c.args.birth)) s.entries) c.self.view_is

pub returns-in-None-clause-value : goal.returns-in-None-clause-value
returns-in-None-clause-value c =
    let es = c.self.inside.entries.items in
    let no : lookup (λ k. c.args.birth == k) es ≡ None = subst (λ xs. lookup (λ k. c.args.birth == k) xs ≡ None) c.as_slice.ensures.value c.in-None.ensures in
    sym no ∙ sym (lookup-in_order es c.args.birth) ∙ ap (λ s. lookup (is_at (nat_cmp c.args.birth)) s.entries) c.self.view_is

pub returns-in-None-clause-entries : goal.returns-in-None-clause-entries
returns-in-None-clause-entries c =
    let es = c.self.inside.entries.items in
    let no : lookup (λ k. c.args.birth == k) es ≡ None = subst (λ xs. lookup (λ k. c.args.birth == k) xs ≡ None) c.as_slice.ensures.value c.in-None.ensures in
    subst (λ s. s.entries ≡ remove_entry (is_at (nat_cmp c.args.birth)) s.entries) c.self.view_is
    (removed_in_order es es c.args.birth (nothing_out es c.args.birth no))

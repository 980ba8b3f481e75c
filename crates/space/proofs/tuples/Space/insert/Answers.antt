use Rattle.std.proofs.Common.{◌≡◌, ◌<◌, ◌^◌, ◌%◌, refl, length, sym, ap, subst, ◌∙◌, arith}
use Rattle.std.specs.Ordering.{nat_cmp}
use Rattle.std.specs.BTreeMap.{insert_entry}
use Rattle.space.specs.Applying.{most_tuples}
use Rattle.space.specs.Births.{with_birth}
use Rattle.space.specs.Counted.{IsIndexed}
use Rattle.space.proofs.Keeping.{birth_soon, birth_from}
use Rattle.space.proofs.Storing.{IsIndexed-added, IsIndexed-undone, added_state}
use Rattle.space.proofs.tuples.Space.insert.Goals as goal

pub same-copy : goal.same-copy
same-copy g c = refl

pub next_birth-birth-requires-clause-pages : goal.next_birth-birth-requires-clause-pages
next_birth-birth-requires-clause-pages g c = c.self.told

pub next_birth-birth-requires-clause-bound : goal.next_birth-birth-requires-clause-bound
next_birth-birth-requires-clause-bound g c = subst (λ s. s.next < 2 ^ 62) (sym c.self.view_is) c.requires.births

pub nonzero_rem-self : goal.nonzero_rem-self
nonzero_rem-self g c = omega arith

pub bounds-self-inside-birth : goal.bounds-self-inside-birth
bounds-self-inside-birth g c = omega arith

pub bounds-self-inside-birth-2 : goal.bounds-self-inside-birth-2
bounds-self-inside-birth-2 g c = omega arith

pub overflow_add-self : goal.overflow_add-self
overflow_add-self g c =
    let page = c.next_birth-birth.result % 256 in
    let counted = c.self.invariant.counts.counted page (omega arith) in
    let few = c.self.invariant.counts.state.pages page in
    omega arith

pub overflow_add-self-2 : goal.overflow_add-self-2
overflow_add-self-2 g c =
    let room = subst (λ s. length s.entries < most_tuples s.version) (sym c.self.view_is) c.requires.room in
    let births = subst (λ s. s.next < 2 ^ 62) (sym c.self.view_is) c.requires.births in
    let soon = birth_soon c.self.inside.version c.self.inside.tuples.entries c.self.inside.next c.self.inside.page_counts c.self.invariant.counts c.next_birth-birth.result c.next_birth-birth.ensures room in
    omega arith

pub insert-requires-2 : goal.insert-requires-2
insert-requires-2 g c = λ k d l.
    let state = c.self.invariant.counts.state in
    let under = state.below_next k d l in
    let room = subst (λ s. length s.entries < most_tuples s.version) (sym c.self.view_is) c.requires.room in
    let newest = birth_from c.self.inside.version c.self.inside.tuples.entries c.self.inside.next c.self.inside.page_counts c.self.invariant.counts c.next_birth-birth.result c.next_birth-birth.ensures room in
    omega arith

pub invariant_of-self : goal.invariant_of-self
invariant_of-self g c =
    let h = c.self.invariant in
    record { counts = h.counts; indexed = c.in_err-insert.ensures.err c.self.inside.tuples.entries h.indexed }

pub invariant_of-self-in-Err : goal.invariant_of-self-in-Err
invariant_of-self-in-Err g c =
    let es = c.self.inside.tuples.entries in
    let next = c.self.inside.next in
    let counts = c.self.inside.page_counts in
    let h = c.self.invariant in
    let room = subst (λ s. length s.entries < most_tuples s.version) (sym c.self.view_is) c.requires.room in
    let newest = birth_from c.self.inside.version es next counts h.counts c.next_birth-birth.result c.next_birth-birth.ensures room in
    subst (λ xs. IsIndexed c.self.inside.version xs next counts c.remove.new.self) (ap (λ s. s.entries) (sym (c.in-Err.ensures {u = tt}).err))
    (IsIndexed-undone c.self.inside.version es next counts c.self.inside.index h c.next_birth-birth.result newest c.args.tuple.now c.insert.new.self c.remove.new.self
    (c.in_ok-insert.ensures {u = tt}).ok c.remove.ensures)

pub invariant_of-self-2 : goal.invariant_of-self-2
invariant_of-self-2 g c =
    let es = c.self.inside.tuples.entries in
    let next = c.self.inside.next in
    let counts = c.self.inside.page_counts in
    let h = c.self.invariant in
    let b = c.next_birth-birth.result in
    let room = subst (λ s. length s.entries < most_tuples s.version) (sym c.self.view_is) c.requires.room in
    let newest = birth_from c.self.inside.version es next counts h.counts b c.next_birth-birth.ensures room in
    let same : c.in_ok-copy.copy ≡ c.args.tuple.now = c.in_ok-copy.ensures {u = tt} in
    IsIndexed-added c.self.inside.version es next counts c.self.inside.index h b newest c.args.tuple.now c.insert-2.new.self.entries c.insert.new.self c.self.told c.note_tuple.ensures room c.next_birth-birth.ensures
    (subst (λ t. c.insert-2.new.self.entries ≡ insert_entry nat_cmp es b t) same (c.in_default.ensures {u = tt}).entries)
    (c.in_ok-insert.ensures {u = tt}).ok

pub returns-clause-ok : goal.returns-clause-ok
returns-clause-ok g c =
    let es = c.self.inside.tuples.entries in
    let next = c.self.inside.next in
    let counts = c.self.inside.page_counts in
    let h = c.self.invariant in
    let b = c.next_birth-birth.result in
    let room = subst (λ s. length s.entries < most_tuples s.version) (sym c.self.view_is) c.requires.room in
    let newest = birth_from c.self.inside.version es next counts h.counts b c.next_birth-birth.ensures room in
    let same : c.in_ok-copy.copy ≡ c.args.tuple.now = c.in_ok-copy.ensures {u = tt} in
    added_state c.self.inside.version es next counts c.self.inside.index h b newest c.args.tuple.now c.insert-2.new.self.entries c.next_birth-birth.ensures
    (subst (λ t. c.insert-2.new.self.entries ≡ insert_entry nat_cmp es b t) same (c.in_default.ensures {u = tt}).entries)
    ∙ ap (λ s. with_birth s c.args.tuple.now) c.self.view_is

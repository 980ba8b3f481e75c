use Rattle.std.proofs.Common.{◌≡◌, ◌<◌, [], Some, sym, ap, subst, ◌∙◌, rules}
use Rattle.std.specs.Prelude.{◌==◌, AllPairs, if◌then◌else◌}
use Rattle.space.specs.Ages.{births_without}
use Rattle.space.specs.Filing.{births_at, births_or_none}
use Rattle.space.specs.KeyBirths.{births_of}
use Rattle.space.specs.declared.lists.Lists.{Lists}
use Rattle.space.proofs.Listed.{puts, births_removed, nothing_removed, emptied}
use Rattle.space.proofs.lists.Lists.take.Goals as goal

pub returns-in-Some-clause-taken : goal.returns-in-Some-clause-taken
returns-in-Some-clause-taken c rising =
    let m = c.args.self.now in
    let n : Lists = record { alloc = c.args.self.now.alloc; lists = c.get_mut.follows.lender c.remove.new.self } in
    let is : births_at m c.args.key ≡ births_of c.in-Some.births.now = sym (ap births_or_none c.in-Some.ensures.value) in
    births_removed m n c.args.key (births_of c.in-Some.births.now) c.args.birth (Some c.remove.new.self) is
    (c.remove.ensures (subst (AllPairs (λ a b. a < b)) is rising))
    (puts m n c.args.key (Some c.remove.new.self) ((c.get_mut.follows.holds c.remove.new.self).3 (search rules)))

pub returns-in-Some-clause-emptied : goal.returns-in-Some-clause-emptied
returns-in-Some-clause-emptied c empty =
    ap births_or_none ((c.get_mut.follows.holds c.remove.new.self).3 (search rules)).1
    ∙ sym c.as_slice.ensures ∙ emptied c.as_slice.result.now (sym c.is_empty.ensures ∙ empty)

pub returns-in-None-clause-taken : goal.returns-in-None-clause-taken
returns-in-None-clause-taken c rising q =
    let m = c.args.self.now in
    let none : births_at m c.args.key ≡ [] = sym (ap births_or_none c.in-None.ensures.value) in
    subst (λ s. births_at (record { alloc = c.args.self.now.alloc; lists = s }) q ≡ if c.args.key == q then births_without c.args.birth (births_at m q) else births_at m q) (sym c.get_mut.follows.holds-at-none) (nothing_removed m c.args.key c.args.birth none q)

use Rattle.std.proofs.Common.{◌≡◌, [], Some, refl, sym, ap, subst, ◌∙◌, rules}
use Rattle.std.proofs.lemmas.Result.{on_ok_weaker, on_err_weaker}
use Rattle.space.specs.Filing.{births_at, births_or_none}
use Rattle.space.specs.KeyBirths.{births_of}
use Rattle.space.specs.declared.key_births.KeyBirths.TheVariants.{One}
use Rattle.space.specs.declared.lists.Lists.{Lists}
use Rattle.space.proofs.Listed.{Puts, puts, births_added, births_unchanged}
use Rattle.space.proofs.lists.Lists.add.Goals as goal

pub returns-in-Some-clause-ok : goal.returns-in-Some-clause-ok
returns-in-Some-clause-ok c =
    let m = c.args.self.now in
    let n : Lists = record { alloc = c.args.self.now.alloc; lists = c.get_mut.follows.lender c.add.new.self } in
    let key = c.args.key in
    on_ok_weaker c.add.result
    (λ more.
    births_added m n key (births_of c.in-Some.births.now) c.args.birth (Some c.add.new.self) (sym (ap births_or_none c.in-Some.ensures.value)) more
    (puts m n key (Some c.add.new.self) ((c.get_mut.follows.holds c.add.new.self).3 (search rules))))
    c.add.ensures.ok

pub returns-in-Some-clause-err : goal.returns-in-Some-clause-err
returns-in-Some-clause-err c =
    let m = c.args.self.now in
    let n : Lists = record { alloc = c.args.self.now.alloc; lists = c.get_mut.follows.lender c.add.new.self } in
    let key = c.args.key in
    on_err_weaker c.add.result
    (λ same.
    births_unchanged m n key (Some c.add.new.self) (same ∙ ap births_or_none c.in-Some.ensures.value)
    (puts m n key (Some c.add.new.self) ((c.get_mut.follows.holds c.add.new.self).3 (search rules))))
    c.add.ensures.err

pub returns-in-Ok-clause-ok : goal.returns-in-Ok-clause-ok
returns-in-Ok-clause-ok c =
    let m = c.args.self.now in
    let n : Lists = record { alloc = c.args.self.now.alloc; lists = c.insert.new.self } in
    let key = c.args.key in
    let none : births_at m key ≡ [] = sym (ap births_or_none c.in_default.ensures.value) in
    let made : Lists = record { alloc = c.args.self.now.alloc; lists = c.get_mut.follows.lender-at-none } in
    let k = puts made n key (Some (One c.args.birth)) (c.in-Ok.ensures {u = tt}).updates in
    births_added m n key [] c.args.birth (Some (One c.args.birth)) none refl
    (subst (λ s. Puts (record { alloc = c.args.self.now.alloc; lists = s }) n key (Some (One c.args.birth))) c.get_mut.follows.holds-at-none k)

use Rattle.std.proofs.Common.{◌<◌, length, sym, subst, arith}
use Rattle.std.specs.Prelude.{AllPairs}
use Rattle.space.specs.Ages.{ListedBirths}
use Rattle.space.proofs.Numbered.{read, births_removed, nothing_removed}
use Rattle.space.proofs.birth_table.BirthTable.remove.Goals as goal

pub returns-then-number-len : goal.returns-then-number-len
returns-then-number-len c rising =
    let ls = c.args.self.now.lists.items in
    let i = c.args.number in
    let was = c.index_mut.result.now in
    let within : i < length ls = omega arith in
    let here = read ls i was was within c.index_mut.ensures.value in
    births_removed ls i was c.remove.new.self within c.index_mut.ensures.value c.args.birth
    (c.remove.ensures (subst (λ (x : ListedBirths). AllPairs (λ a b. a < b) x.births) (sym here) rising))

pub returns-else-number-len : goal.returns-else-number-len
returns-else-number-len c rising = nothing_removed c.args.self.now.lists.items c.args.number c.args.birth (omega arith)

use Rattle.std.proofs.Common.{ap, sym, ◌∙◌, arith}
use Rattle.std.proofs.lemmas.List.{get_or_past}
use Rattle.space.specs.Ages.{ListedBirths}
use Rattle.space.specs.Filing.{no_list}
use Rattle.space.proofs.Numbered.{read}
use Rattle.space.proofs.birth_table.BirthTable.get.Goals as goal

pub returns-then-number-len : goal.returns-then-number-len
returns-then-number-len c =
    let ls = c.args.self.now.lists.items in
    let here = read ls c.args.number c.index.result.now c.index.result.now (omega arith) c.index.ensures in
    c.as_slice.ensures ∙ ap (λ (x : ListedBirths). x.births) here

pub returns-else-number-len : goal.returns-else-number-len
returns-else-number-len c = sym (ap (λ (x : ListedBirths). x.births) (get_or_past c.args.self.now.lists.items c.args.number no_list (omega arith)))

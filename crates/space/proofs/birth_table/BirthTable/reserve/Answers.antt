use Rattle.std.proofs.Common.{◌<◌, length, sym, subst, ◌∙◌, arith}
use Rattle.std.proofs.lemmas.List.{get_or-set_same}
use Rattle.std.proofs.lemmas.Result.{on_ok_weaker}
use Rattle.space.specs.Ages.{ListedBirths}
use Rattle.space.specs.Filing.{no_list}
use Rattle.space.proofs.Numbered.{births_unchanged}
use Rattle.space.proofs.birth_table.BirthTable.reserve.Goals as goal

pub index_mut-requires : goal.index_mut-requires
index_mut-requires c = (c.in_ok-reach.ensures {u = tt}).ok

pub returns-clause-ok : goal.returns-clause-ok
returns-clause-ok c =
    let ls = c.reach.new.self.lists.items in
    let reached = (c.in_ok-reach.ensures {u = tt}).ok in
    let within : c.args.number < length ls = omega arith in
    on_ok_weaker c.reserve.result
    (λ l. subst (λ (x : ListedBirths). 0 < x.room) (sym (get_or-set_same ls c.args.number c.reserve.new.self no_list within)) l) c.reserve.ensures.ok

pub returns-clause-births : goal.returns-clause-births
returns-clause-births c n =
    let ls = c.reach.new.self.lists.items in
    let reached = (c.in_ok-reach.ensures {u = tt}).ok in
    let within : c.args.number < length ls = omega arith in
    births_unchanged ls c.args.number c.index_mut.result.now c.reserve.new.self within c.index_mut.ensures.value c.reserve.ensures.births n
    ∙ (c.in_ok-reach.ensures {u = tt}).births n

use Rattle.std.proofs.Common.{List, get_or, ap, ◌∙◌}
use Rattle.space.specs.Ages.{ListedBirths}
use Rattle.space.specs.Filing.{no_list}
use Rattle.space.proofs.Numbered.{one_more}
use Rattle.space.proofs.birth_table.BirthTable.reach.Goals as goal

pub loop-self-preserved : goal.loop-self-preserved
loop-self-preserved c n =
    ap (λ (ls : List ListedBirths). (get_or ls n no_list).births) (c.in_ok-push.ensures {u = tt}).items
    ∙ one_more c.loop-self.self.lists.items c.new.result c.new.ensures n ∙ c.loop-self.invariant n

pub returns-in_err-push-clause-births : goal.returns-in_err-push-clause-births
returns-in_err-push-clause-births c n =
    ap (λ (ls : List ListedBirths). (get_or ls n no_list).births) (c.in_err-push.ensures {u = tt}).items ∙ c.loop-self.invariant n

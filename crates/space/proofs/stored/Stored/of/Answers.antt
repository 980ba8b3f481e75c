use Rattle.std.proofs.Common.{◌++◌, ap, sym, ◌∙◌, append-nil}
use Rattle.space.proofs.InOrder.{next_is_newest, one_more}
use Rattle.space.proofs.stored.Stored.of.Goals as goal

pub loop-birth-init : goal.loop-birth-init
loop-birth-init c = ap (λ es. es ++ c.into_iter-birth-iterator.result) c.new-stored.ensures.empty ∙ c.into_iter-birth-iterator.ensures.into_iter_gives.0

pub loop-birth-preserved : goal.loop-birth-preserved
loop-birth-preserved c =
    one_more c.args.tuples.entries c.loop-birth.stored.entries c.insert.new.self.entries c.loop-birth.birth-iterator c.next.new.self (c.in-Some.birth, c.in-Some.tuple)
    c.requires c.loop-birth.invariant ((c.in-Some.ensures {u = tt}).steps) (c.in_ok-insert.ensures {u = tt}).entries

pub returns : goal.returns
returns c =
    sym (append-nil c.loop-birth.stored.entries) ∙ ap (λ es. c.loop-birth.stored.entries ++ es) (sym (c.in-None.ensures {u = tt}).steps.0) ∙ c.loop-birth.invariant

pub insert-requires : goal.insert-requires
insert-requires c =
    next_is_newest c.args.tuples.entries c.loop-birth.stored.entries c.loop-birth.birth-iterator c.next.new.self (c.in-Some.birth, c.in-Some.tuple)
    c.requires c.loop-birth.invariant ((c.in-Some.ensures {u = tt}).steps)

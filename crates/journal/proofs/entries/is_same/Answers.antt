use Rattle.journal.proofs.entries.is_same.Goals as goal

pub returns : goal.returns
returns c = rw (c.kind.ensures.says, c.kind-2.ensures.says) at c.is_same_kind.ensures

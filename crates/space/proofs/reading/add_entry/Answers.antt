use Rattle.std.proofs.Common.{subst, sym}
use Rattle.space.specs.Reading.{TupleIsAdded}
use Rattle.space.proofs.Trees.{IsAdded-inserted}
use Rattle.space.proofs.reading.add_entry.Goals as goal

pub returns-in-Ok : goal.returns-in-Ok
returns-in-Ok c =
    let es = c.args.tuples.now.entries in
    subst (λ xs. TupleIsAdded es xs c.args.entry) (sym (c.in-Ok.ensures {u = tt}).entries) (IsAdded-inserted es c.args.entry c.requires.rising c.requires.latest)

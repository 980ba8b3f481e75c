use Rattle.std.proofs.Common.{length}
use Rattle.tuple_tree.specs.Spelling.{tuple_spelling}
use Rattle.space.proofs.Fronts.{tuple_found, tuple_only, tuple_within, tuple_spelled}
use Rattle.space.proofs.reading.read_tuple.Goals as goal

pub returns-in-Ok-clause-found : goal.returns-in-Ok-clause-found
returns-in-Ok-clause-found c = tuple_found c.args.text.now c.split_at.result.1.now c.in-Ok.len c.in-Ok.tuple (c.in-Ok.ensures {u = tt}).found.1 c.split_at.ensures.back

pub returns-in-Ok-clause-only : goal.returns-in-Ok-clause-only
returns-in-Ok-clause-only c t rest valid is =
    tuple_only c.args.text.now c.split_at.result.1.now c.in-Ok.len c.in-Ok.tuple (c.in-Ok.ensures {u = tt}).found.1 c.split_at.ensures.back t rest valid is

pub returns-in-Err-clause-only : goal.returns-in-Err-clause-only
returns-in-Err-clause-only c t rest valid is =
    (c.in-Err.ensures {u = tt}).only t (length (tuple_spelling t)) (tuple_within c.args.text.now t rest valid is) (tuple_spelled c.args.text.now t rest valid is)

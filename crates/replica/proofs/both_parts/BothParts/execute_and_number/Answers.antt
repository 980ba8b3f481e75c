use Rattle.std.proofs.lemmas.Result.{on_ok_weaker}
use Rattle.replica.proofs.both_parts.BothParts.execute_and_number.Goals as goal

pub returns-clause-ok : goal.returns-clause-ok
returns-clause-ok c = on_ok_weaker c.number_waiting.result
    (λ k. (c.execute_committed.new.self, c.execute_committed.new.outputs.items, c.in_ok-execute_committed.ensures.ok, k))
    c.number_waiting.ensures.ok

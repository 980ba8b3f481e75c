use Rattle.std.proofs.Common.{Some, None, sym, ap, ◌∙◌}
use Rattle.std.specs.Prelude.{is_some}
use Rattle.tuple_codec.specs.Operations.{found}
use Rattle.space.specs.Applying.{found_or_absent}
use Rattle.space.proofs.Finding.{first_of, on_err}
use Rattle.space.proofs.tuples.Space.read.Goals as goal

pub returns-in_ok-copy_in-in-Some-clause-value : goal.returns-in_ok-copy_in-in-Some-clause-value
returns-in_ok-copy_in-in-Some-clause-value g c =
    ap found (c.in_ok-copy_in-in-Some.ensures {u = tt})
    ∙ sym (ap found_or_absent (first_of c.args.self.now c.args.template.now (Some (c.in-Some.field-0-0, c.in-Some.tuple.now)) c.in-Some.ensures.value))

pub returns-in-None-clause-value : goal.returns-in-None-clause-value
returns-in-None-clause-value g c = sym (ap found_or_absent (first_of c.args.self.now c.args.template.now None c.in-None.ensures.value))

pub returns-in_err-copy_in-in-Some-clause-memory : goal.returns-in_err-copy_in-in-Some-clause-memory
returns-in_err-copy_in-in-Some-clause-memory g c =
    on_err c.from_residual.result (ap is_some (first_of c.args.self.now c.args.template.now (Some (c.in-Some.field-0-0, c.in-Some.tuple.now)) c.in-Some.ensures.value))

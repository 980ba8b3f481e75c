use Rattle.std.proofs.Common.{Some, None, sym, ap}
use Rattle.space.specs.Applying.{found_or_absent}
use Rattle.space.proofs.Finding.{first_of}
use Rattle.space.proofs.tuples.Space.see.Goals as goal

pub returns-in-Some : goal.returns-in-Some
returns-in-Some g c = sym (ap found_or_absent (first_of c.args.self.now c.args.template.now (Some (c.in-Some.field-0-0, c.in-Some.tuple.now)) c.in-Some.ensures.value))

pub returns-in-None : goal.returns-in-None
returns-in-None g c = sym (ap found_or_absent (first_of c.args.self.now c.args.template.now None c.in-None.ensures.value))

use Rattle.records.proofs.Framing.{judges}
use Rattle.records.proofs.taking.begins_with_record.Goals as goal

pub returns-in-Some : goal.returns-in-Some
returns-in-Some c = judges c.args.bytes.now c.in-Some.length (c.in-Some.ensures {u = tt}).says

use Rattle.std.proofs.Common.{arith}
use Rattle.space.proofs.Fronts.{entry_found, entry_only, behind_birth}
use Rattle.space.proofs.reading.read_entry.Goals as goal

pub returns-in-Ok-clause-found : goal.returns-in-Ok-clause-found
returns-in-Ok-clause-found c =
    entry_found c.args.version c.args.bytes.now c.split_at.result.1.now c.in-Ok.rest.now c.read_u64-birth.result c.in-Ok.tuple (omega arith) (λ i. omega (arith, c.type_inv.bytes i))
    c.read_u64-birth.ensures c.split_at.ensures.back (c.in-Ok.ensures {u = tt}).found

pub returns-in-Ok-clause-only : goal.returns-in-Ok-clause-only
returns-in-Ok-clause-only c e rest valid is =
    entry_only c.args.version c.args.bytes.now c.split_at.result.1.now c.in-Ok.rest.now c.read_u64-birth.result c.in-Ok.tuple (omega arith) (λ i. omega (arith, c.type_inv.bytes i))
    c.read_u64-birth.ensures c.split_at.ensures.back (c.in-Ok.ensures {u = tt}).found e rest valid is

pub returns-in-Err-clause-only : goal.returns-in-Err-clause-only
returns-in-Err-clause-only c e rest valid is =
    (c.in-Err.ensures {u = tt}).only e.1 rest valid.tuple (behind_birth c.args.version c.args.bytes.now c.split_at.result.1.now e rest c.split_at.ensures.back is)

use Rattle.std.proofs.Common.{arith}
use Rattle.records.proofs.Framing.{says_length}
use Rattle.records.proofs.taking.length_at.Goals as goal

pub returns-in-len4-up-clause-says : goal.returns-in-len4-up-clause-says
returns-in-len4-up-clause-says c =
    says_length c.args.bytes.now _ c.in-len4-up.len_at_least (λ i. omega (arith, c.type_inv.bytes i)) c.from_be_bytes.type_inv c.from_be_bytes.ensures

use Rattle.std.proofs.Common.{arith}
use Rattle.tuple_codec.specs.OperationView.{outcome_of}
use Rattle.reply_cache.proofs.Fronts.{reply_found, spelled_one}
use Rattle.reply_cache.proofs.pages.read_reply.Goals as goal

pub returns-in-Ok-clause-found : goal.returns-in-Ok-clause-found
returns-in-Ok-clause-found c =
    reply_found c.args.text.now c.split_at.result.1.now c.split_at-2.result.1.now c.read_u64-timestamp.result c.read_u64-number.result (outcome_of c.in-Ok.answer) (omega arith) (λ i. omega (arith, c.type_inv.text i))
    c.read_u64-timestamp.ensures c.split_at.ensures.back c.read_u64-number.ensures c.split_at-2.ensures.back (omega arith) (c.in-Ok.ensures {u = tt}).found

pub returns-in-Ok-clause-only : goal.returns-in-Ok-clause-only
returns-in-Ok-clause-only c o spells =
    let found = reply_found c.args.text.now c.split_at.result.1.now c.split_at-2.result.1.now c.read_u64-timestamp.result c.read_u64-number.result (outcome_of c.in-Ok.answer) (omega arith) (λ i. omega (arith, c.type_inv.text i))
    c.read_u64-timestamp.ensures c.split_at.ensures.back c.read_u64-number.ensures c.split_at-2.ensures.back (omega arith) (c.in-Ok.ensures {u = tt}).found in
    spelled_one c.args.text.now _ o found spells

use Rattle.std.proofs.Common.{arith}
use Rattle.tuple_tree.specs.Values.{IsTemplate}
use Rattle.tuple_tree.specs.Spelling.{template_spelling}
use Rattle.tuple_tree.specs.Reading.{template_at}
use Rattle.tuple_codec.proofs.Grammar.{shorter, spelled, only_ok, only_err, template_reads}
use Rattle.tuple_codec.proofs.Skipping.{front_there, front_none}
use Rattle.tuple_codec.proofs.decode.decode_template.Goals as goal

pub overflow_sub-result : goal.overflow_sub-result
overflow_sub-result g c = shorter IsTemplate template_spelling template_at template_reads c.args.bytes.now c.in-Ok.rest.now c.in-Ok.template (λ i. omega (arith, c.type_inv.bytes i)) c.in-Ok.ensures

pub returns-in-Ok-clause-found : goal.returns-in-Ok-clause-found
returns-in-Ok-clause-found g c = (omega arith, spelled IsTemplate template_spelling template_at template_reads c.args.bytes.now c.in-Ok.rest.now c.in-Ok.template (λ i. omega (arith, c.type_inv.bytes i)) c.in-Ok.ensures)

pub returns-in-Ok-clause-only : goal.returns-in-Ok-clause-only
returns-in-Ok-clause-only g c t k p s = only_ok IsTemplate template_spelling template_at template_reads c.args.bytes.now c.in-Ok.rest.now c.in-Ok.template t k c.in-Ok.ensures p s

pub returns-clause-only : goal.returns-clause-only
returns-clause-only g c t k p s = only_err IsTemplate template_spelling template_at template_reads c.args.bytes.now c.in-Err.bad t k c.in-Err.ensures s

pub returns-in_default-clause-only : goal.returns-in_default-clause-only
returns-in_default-clause-only g c t k p s = front_none IsTemplate template_spelling template_at template_reads c.args.bytes.now t k c.in_default.ensures s

pub returns-clause-memory : goal.returns-clause-memory
returns-clause-memory g c e = front_there IsTemplate template_spelling template_at template_reads c.args.bytes.now _ (λ i. omega (arith, c.type_inv.bytes i)) c.in-Some.ensures

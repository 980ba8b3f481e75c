use Rattle.std.proofs.Common.{None, Some, drop, refl, subst, sym, ◌∙◌, arith}
use Rattle.byteorder.specs.Endian.{big_number}
use Rattle.tuple_codec.specs.Spelling.{SpellsOutcome}
use Rattle.reply_cache.proofs.Fronts.{reply_found, reply_rest, no_reply}
use Rattle.reply_cache.proofs.pages.is_page.Goals as goal

pub returns-then-is_empty-clause-found : goal.returns-then-is_empty-clause-found
returns-then-is_empty-clause-found c _ = (None, no_reply c.args.text.now (sym c.is_empty.ensures ∙ c.if-is_empty.true))

pub returns-clause-found : goal.returns-clause-found
returns-clause-found c t =
    let text = c.args.text.now in
    let r = c.is_result.ensures.0 t in (
      Some (record { timestamp = c.read_u64.result; number = big_number 8 (drop 8 text); outcome = r.0 }),
      reply_found text (drop 8 text) c.split_at.result.1.now c.read_u64.result (big_number 8 (drop 8 text)) r.0 (omega arith) (λ i. omega (arith, c.type_inv.text i))
          c.read_u64.ensures refl refl c.split_at.ensures.back (omega arith) r.1,
    )

pub returns-clause-only : goal.returns-clause-only
returns-clause-only c o spells =
    let r = reply_rest c.args.text.now o (omega arith) spells in
    c.is_result.ensures.1 (r.0, subst (λ bs. SpellsOutcome bs r.0) (sym c.split_at.ensures.back) r.1)

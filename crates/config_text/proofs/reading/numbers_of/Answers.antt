use Rattle.std.proofs.Common.{◌==◌, ap, sym, ◌∙◌}
use Rattle.std.specs.List.{list_any}
use Rattle.std.proofs.lemmas.Result.{err_from_is_err_and}
use Rattle.config_text.proofs.Listed.{one_more, no_party, named_twice, one_party_more}
use Rattle.config_text.proofs.Refusals.{because}
use Rattle.config_text.proofs.reading.numbers_of.Goals as goal

pub returns-in_err-number : goal.returns-in_err-number
returns-in_err-number c =
    let p = err_from_is_err_and c.from_residual.result c.from_residual.ensures.1 in
    rw (p.1, p.2) (because c.in_err-number.field-0.0
    (no_party c.args.items.now c.loop-item.item-index c.args.parties c.item-item.result c.loop-item-test.true c.item-item.is)
    (c.in_err-number.ensures {u = tt}))

pub returns-then-has : goal.returns-then-has
returns-then-has c =
    let number = c.in_ok-number.number in
    let found = sym (c.has.ensures ∙ ap (list_any (λ y. y == number)) c.as_slice.ensures.value) ∙ c.if-has.true in
    named_twice c.args.items.now c.loop-item.item-index c.args.parties c.item-item.result c.loop-item.numbers.items number
    c.loop-item-test.true c.item-item.is c.loop-item.invariant.0 (c.in_ok-number.ensures {u = tt}).0 found

pub loop-item-preserved : goal.loop-item-preserved
loop-item-preserved c =
    let number = c.in_ok-number.number in
    let pushed = (c.in_ok-push.ensures {u = tt}).items in
    let none = sym (c.has.ensures ∙ ap (list_any (λ y. y == number)) c.as_slice.ensures.value) ∙ c.if-has.false in (
      one_more c.args.items.now c.loop-item.item-index c.item-item.result c.loop-item.numbers.items c.push.new.self.items
          number c.loop-item-test.true c.item-item.is c.loop-item.invariant.0 (c.in_ok-number.ensures {u = tt}).0 pushed,
      rw pushed (one_party_more c.args.parties c.loop-item.numbers.items number c.loop-item.invariant.1 (c.in_ok-number.ensures {u = tt}).1 none),
    )

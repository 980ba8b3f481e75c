use Rattle.std.proofs.Common.{[], ◌∷◌, ◌++◌, ap, ◌∙◌, arith, ◌+◌, drop, take}
use Rattle.std.specs.List.{flat_map}
use Rattle.std.proofs.lemmas.Result.{err_from_is_err_and}
use Rattle.tuple_text.specs.Texts.{escaped}
use Rattle.tuple_text.proofs.Writing.{so_far, one_more, error_behind, last_part, some_more, drop_all}
use Rattle.tuple_text.proofs.write.put_escapes.Goals as goal

pub returns-in_err-put_byte : goal.returns-in_err-put_byte
returns-in_err-put_byte g c =
    let p = err_from_is_err_and c.from_residual.result c.from_residual.ensures.1 in
    rw (p.1) c.in_err-put_byte.ensures

pub loop-done-init : goal.loop-done-init
loop-done-init g c = so_far _ (34 ∷ []) (flat_map escaped c.args.text.now ++ 34 ∷ []) _ c.in_ok-put_byte.ensures

pub returns : goal.returns
returns g c =
    last_part c.put_byte-2.result _ _ _ (34 ∷ []) _ c.put_byte-2.new.out.items c.loop-done.invariant
    (ap (λ s. flat_map escaped s ++ 34 ∷ []) ((drop_all c.args.text.now c.loop-done.done (omega arith)))) c.put_byte-2.ensures

pub returns-in_err-done : goal.returns-in_err-done
returns-in_err-done g c =
    let p = err_from_is_err_and c.from_residual-in_err-done.result c.from_residual-in_err-done.ensures.1 in
    rw (p.1) (error_behind _ _ _ _ _ c.loop-done.invariant c.in_err-done.ensures)

pub loop-done-preserved : goal.loop-done-preserved
loop-done-preserved g c =
    let n = c.in_ok-done.field-0 in
    one_more _ _ _ _ (flat_map escaped (drop (c.loop-done.done + n) c.args.text.now) ++ 34 ∷ []) _ _ c.loop-done.invariant
    (some_more escaped c.args.text.now (34 ∷ []) c.loop-done.done n)
    ((c.in_ok-done.ensures {u = tt}).2 ∙ ap (λ r. c.loop-done.out.items ++ flat_map escaped (take n r)) c.split_at.ensures.back)

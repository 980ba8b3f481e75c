use Rattle.std.proofs.Common.{◌≡◌, [], ◌∷◌, ◌++◌, length, drop, subst, sym, arith, ap, ◌∙◌, ◌+◌, append_assoc}
use Rattle.std.specs.Fmt.{decimal}
use Rattle.std.proofs.lemmas.Result.{err_from_is_err_and}
use Rattle.tuple_text.specs.Written.{tuple_written, tuples_written}
use Rattle.tuple_text.proofs.Writing.{SoFar, so_far, one_more, error_behind, error_second, nothing_left, tuples_first}
use Rattle.tuple_text.proofs.Writing.{drop_all}
use Rattle.tuple_text.proofs.write.put_tuples.Goals as goal

pub returns-in_err-append : goal.returns-in_err-append
returns-in_err-append g c =
    let p = err_from_is_err_and c.from_residual.result c.from_residual.ensures.1 in
    rw (p.1) c.in_err-append.ensures

pub loop-tuple-init : goal.loop-tuple-init
loop-tuple-init g c = record {
  tuples = c.as_slice-tuple-items.ensures.value;
  written =
      let e : c.as_bytes.result.now ≡ decimal (length c.args.tuples.now) = cc in
      subst (λ ts. SoFar c.args.out.now.items c.append.new.out.items (tuples_written ts) (decimal (length c.args.tuples.now) ++ tuples_written c.args.tuples.now)) (sym c.as_slice-tuple-items.ensures.value)
      (so_far c.args.out.now.items (decimal (length c.args.tuples.now)) (tuples_written c.args.tuples.now) c.append.new.out.items (c.in_ok-append.ensures ∙ ap (λ t. c.args.out.now.items ++ t) e));
}

pub returns-in_err-put_byte : goal.returns-in_err-put_byte
returns-in_err-put_byte g c =
    let p = err_from_is_err_and c.from_residual-in_err-put_byte.result c.from_residual-in_err-put_byte.ensures.1 in
    rw (p.1) (error_behind c.args.out.now.items c.loop-tuple.out.items _ _ c.put_byte.new.out.items c.loop-tuple.invariant.written c.in_err-put_byte.ensures)

pub returns-in_err-put_tuple : goal.returns-in_err-put_tuple
returns-in_err-put_tuple g c =
    let p = err_from_is_err_and c.from_residual-in_err-put_tuple.result c.from_residual-in_err-put_tuple.ensures.1 in
    rw (p.1) (error_behind c.args.out.now.items c.loop-tuple.out.items _ _ c.put_tuple.new.out.items c.loop-tuple.invariant.written
    (error_second c.loop-tuple.out.items (32 ∷ []) c.put_byte.new.out.items c.put_tuple.new.out.items c.in_ok-put_byte.ensures c.in_err-put_tuple.ensures))

pub loop-tuple-preserved : goal.loop-tuple-preserved
loop-tuple-preserved g c = record {
  tuples = c.loop-tuple.invariant.tuples;
  written =
      one_more c.args.out.now.items c.loop-tuple.out.items _ (32 ∷ tuple_written c.tuple-item.result) (tuples_written (drop (c.loop-tuple.tuple-index + 1) c.as_slice-tuple-items.result.now)) _ c.put_tuple.new.out.items c.loop-tuple.invariant.written
      (tuples_first c.as_slice-tuple-items.result.now c.loop-tuple.tuple-index c.tuple-item.result (omega arith) c.tuple-item.is)
      (c.in_ok-put_tuple.ensures ∙ ap (λ t. t ++ tuple_written c.tuple-item.result) c.in_ok-put_byte.ensures ∙ append_assoc c.loop-tuple.out.items (32 ∷ []) (tuple_written c.tuple-item.result));
}

pub returns : goal.returns
returns g c =
    nothing_left c.args.out.now.items c.loop-tuple.out.items _ _ c.loop-tuple.invariant.written
    (ap tuples_written (drop_all c.as_slice-tuple-items.result.now c.loop-tuple.tuple-index (omega arith)))

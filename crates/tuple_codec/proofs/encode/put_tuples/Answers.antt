use Rattle.std.proofs.Common.{◌++◌, ap, sym, arith, append-nil}
use Rattle.std.proofs.lemmas.Result.{err_from_is_err_and}
use Rattle.tuple_codec.specs.Spelling.{tuples_spelling}
use Rattle.tuple_codec.proofs.Putting.{grown, kept_on, kept_grown, tuple_put, tuples_put}
use Rattle.tuple_codec.proofs.encode.put_tuples.Goals as goal

pub loop-tuple-init : goal.loop-tuple-init
loop-tuple-init g c = record {
  tuples = c.as_slice-tuple-items.ensures.value;
  spelled = ap (λ ts. c.args.out.now.items ++ tuples_spelling ts) c.as_slice-tuple-items.ensures.value;
  kept = grown _ _ _ (sym (append-nil c.args.out.now.items));
}

pub returns-in_err-put_tuple : goal.returns-in_err-put_tuple
returns-in_err-put_tuple g c =
    let p = err_from_is_err_and c.from_residual.result c.from_residual.ensures.1 in
    rw p.1 (kept_on _ c.loop-tuple.out.items _ c.loop-tuple.invariant.kept c.in_err-put_tuple.ensures)

pub loop-tuple-preserved : goal.loop-tuple-preserved
loop-tuple-preserved g c = record {
  tuples = c.loop-tuple.invariant.tuples;
  spelled = tuple_put c.as_slice-tuple-items.result.now c.loop-tuple.tuple-index c.tuple-item.result _ _ _ (omega arith) c.tuple-item.is c.loop-tuple.invariant.spelled c.in_ok-put_tuple.ensures;
  kept = kept_grown _ _ _ _ c.loop-tuple.invariant.kept c.in_ok-put_tuple.ensures;
}

pub returns : goal.returns
returns g c = tuples_put c.as_slice-tuple-items.result.now c.loop-tuple.tuple-index _ _ (omega arith) c.loop-tuple.invariant.spelled

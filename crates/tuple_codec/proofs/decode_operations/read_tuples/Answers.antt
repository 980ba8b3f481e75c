use Rattle.std.proofs.Common.{◌∙◌, ◌∷◌, [], ap, subst, arith, length, length-append}
use Rattle.std.proofs.lemmas.Result.{err_from_is_err_and}
use Rattle.tuple_codec.specs.Results.{DecodingFails}
use Rattle.tuple_tree.specs.Reading.{tuple_at}
use Rattle.tuple_codec.specs.Reading.{with_last_tuple}
use Rattle.tuple_tree.proofs.Steps.{starts, ends, goes_on}
use Rattle.tuple_codec.proofs.Steps.{one_fails, whole_tuples}
use Rattle.tuple_codec.proofs.decode_operations.read_tuples.Goals as goal

pub loop-i-init : goal.loop-i-init
loop-i-init g c = record {
  reads = starts tuple_at with_last_tuple c.in_ok-count.count _ _ _ c.new_in-tuples.ensures;
  number = ap length c.new_in-tuples.ensures;
}

pub returns-in_err-tuple : goal.returns-in_err-tuple
returns-in_err-tuple g c =
    let p = err_from_is_err_and c.from_residual-in_err-tuple.result c.from_residual-in_err-tuple.ensures.1 in
    let w = whole_tuples _ _ _ c.in_ok-count.count c.loop-i._i _ c.in_ok-count.ensures (omega arith) c.loop-i.invariant.reads in
    rw (p.1, p.2) (subst (DecodingFails c.in_err-tuple.field-0.0) w (one_fails tuple_at with_last_tuple c.in_err-tuple.field-0.0 _ _ _ _ (omega arith) c.in_err-tuple.ensures))

pub loop-i-preserved : goal.loop-i-preserved
loop-i-preserved g c =
    let e = c.in_ok-push_tuple.ensures {u = tt} in
    record {
      reads = goes_on tuple_at with_last_tuple _ _ _ _ _ _ _ (omega arith) c.in_ok-tuple.ensures e ∙ c.loop-i.invariant.reads;
      number = omega (arith, ap length e, length-append c.loop-i.tuples (c.in_ok-tuple.tuple ∷ []), c.loop-i.invariant.number);
    }

pub returns : goal.returns
returns g c =
    let w = whole_tuples _ _ _ c.in_ok-count.count c.loop-i._i _ c.in_ok-count.ensures (omega arith) c.loop-i.invariant.reads in
    ends tuple_at with_last_tuple c.in_ok-count.count c.loop-i._i _ _ _ (omega arith) w

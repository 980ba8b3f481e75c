use Rattle.std.proofs.Common.{codes, length, ◌++◌, subst, sym}
use Rattle.std.specs.Fmt.{decimal}
use Rattle.std.proofs.lemmas.Result.{err_from_is_err_and}
use Rattle.tuple_codec.specs.OperationView.{outcome_of}
use Rattle.tuple_text.specs.Texts.{truth_text}
use Rattle.tuple_text.specs.Written.{tuple_written, tuples_written, outcome_text, WritesText}
use Rattle.tuple_text.proofs.Writing.{second_part}
use Rattle.tuple_text.proofs.write.put_answer.Goals as goal

pub returns-in_err-append-in-Found : goal.returns-in_err-append-in-Found
returns-in_err-append-in-Found g c =
    let p = err_from_is_err_and c.from_residual.result c.from_residual.ensures.1 in
    rw (p.1) c.in_err-append-in-Found.ensures

pub returns-in_ok-append-in-Found : goal.returns-in_ok-append-in-Found
returns-in_ok-append-in-Found g c =
    subst (λ a. WritesText c.put_tuple.result c.args.out.now.items (outcome_text (outcome_of a)) c.put_tuple.new.out.items) (sym c.in-Found.is)
    (second_part c.put_tuple.result c.args.out.now.items c.append-in-Found.new.out.items (codes "found ") (tuple_written c.in-Found.tuple) c.put_tuple.new.out.items c.in_ok-append-in-Found.ensures c.put_tuple.ensures)

pub returns-in_err-append-in-Swapped : goal.returns-in_err-append-in-Swapped
returns-in_err-append-in-Swapped g c =
    let p = err_from_is_err_and c.from_residual-in_err-append-in-Swapped.result c.from_residual-in_err-append-in-Swapped.ensures.1 in
    rw (p.1) c.in_err-append-in-Swapped.ensures

pub returns-in_ok-append-in-Swapped : goal.returns-in_ok-append-in-Swapped
returns-in_ok-append-in-Swapped g c =
    subst (λ a. WritesText c.put_truth.result c.args.out.now.items (outcome_text (outcome_of a)) c.put_truth.new.out.items) (sym c.in-Swapped.is)
    (second_part c.put_truth.result c.args.out.now.items c.append-in-Swapped.new.out.items (codes "swapped ") (truth_text c.in-Swapped.swapped) c.put_truth.new.out.items c.in_ok-append-in-Swapped.ensures c.put_truth.ensures)

pub returns-in_err-append-in-All : goal.returns-in_err-append-in-All
returns-in_err-append-in-All g c =
    let p = err_from_is_err_and c.from_residual-in_err-append-in-All.result c.from_residual-in_err-append-in-All.ensures.1 in
    rw (p.1) c.in_err-append-in-All.ensures

pub returns-in_ok-append-in-All : goal.returns-in_ok-append-in-All
returns-in_ok-append-in-All g c =
    subst (λ a. WritesText c.put_tuples.result c.args.out.now.items (outcome_text (outcome_of a)) c.put_tuples.new.out.items) (sym c.in-All.is)
    (second_part c.put_tuples.result c.args.out.now.items c.append-in-All.new.out.items (codes "all ") (decimal (length c.in-All.tuples) ++ tuples_written c.in-All.tuples) c.put_tuples.new.out.items c.in_ok-append-in-All.ensures c.put_tuples.ensures)

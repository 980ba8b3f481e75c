-- The answer fits, since its longest form does.
use Rattle.std.proofs.Common.{◌≤◌, length, arith}
use Rattle.tuple_codec.specs.OperationView.{operation_of}
use Rattle.space.specs.Births.{tuples_of}
use Rattle.space_library.specs.Applied.{most_answer}
use Rattle.space_library.proofs.Fitting.{answer_fits}
use Rattle.space_library.proofs.applying.apply_spelled.Goals as goal

pub write_answer-requires : goal.write_answer-requires
write_answer-requires c =
    let o = operation_of c.in-Ok.op in
    let longest = c.longest_answer.ensures in
    let low : most_answer o ≤ length c.args.answer.now = omega (arith, longest) in
    answer_fits (tuples_of c.args.space.now) o _ _ c.note_valid.ensures c.in-Ok-apply.ensures.answer low

use Rattle.std.proofs.Common.{◌==◌, slice_index, refl}
use Rattle.read_only.proofs.Marks.{no_marks}
use Rattle.read_only.proofs.receiving.asks_read.Goals as goal

pub returns-then-has_type_of_requests-clause-none : goal.returns-then-has_type_of_requests-clause-none
returns-then-has_type_of_requests-clause-none c unmarked =
    no_marks c.args.bytes.now c.has_type_of_requests.result c.has_read_only_mode.result c.has_type_of_requests.ensures c.has_read_only_mode.ensures
    (rw c.if-has_type_of_requests.true unmarked)

pub returns-else-has_type_of_requests-clause-none : goal.returns-else-has_type_of_requests-clause-none
returns-else-has_type_of_requests-clause-none c unmarked =
    no_marks c.args.bytes.now c.has_type_of_requests.result (slice_index c.args.bytes.now 15 == 0x01) c.has_type_of_requests.ensures refl
    (rw c.if-has_type_of_requests.false refl)

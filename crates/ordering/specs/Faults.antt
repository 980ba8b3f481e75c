-- The numbers of refusals.
use Rattle.std.specs.Prelude.{ℕ}
use Rattle.ordering.specs.declared.dropped.Dropped.{Dropped}
use Rattle.ordering.specs.declared.dropped.Dropped.TheVariants.{WrongView, OutOfMarks, Conflict, UnknownSender, Duplicate}

abbrev pub refusal_number : Dropped → ℕ
refusal_number WrongView = 10
refusal_number OutOfMarks = 11
refusal_number Conflict = 12
refusal_number UnknownSender = 13
refusal_number Duplicate = 14

-- The numbers of refusals of a line.
use Rattle.std.specs.Prelude.{ℕ}
use Rattle.tuple_text.specs.declared.faults.LineFault.{LineFault}
use Rattle.tuple_text.specs.declared.faults.LineFault.TheVariants.{BadByte, TooDeep, TooManyFields, TooLong, NoMemory}

abbrev pub line_refusal : LineFault → ℕ
line_refusal TooManyFields = 1
line_refusal TooDeep = 2
line_refusal TooLong = 3
line_refusal NoMemory = 4
line_refusal (BadByte offset) = 6

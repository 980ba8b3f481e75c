-- The numbers of refusals.
use Rattle.std.specs.Prelude.{ℕ}
use Rattle.tuple_text.specs.declared.faults.LineFault.{LineFault}
use Rattle.tuple_text.specs.declared.faults.LineFault.TheVariants.{BadByte, TooDeep, TooManyFields, TooLong, NoMemory}

-- of a script line with this fault
abbrev pub line_refusal : LineFault → ℕ
line_refusal TooManyFields = 1
line_refusal TooDeep = 2
line_refusal TooLong = 3
line_refusal NoMemory = 4
line_refusal (BadByte offset) = 6

-- of digits that spell no tuple
abbrev pub malformed_refusal : ℕ
malformed_refusal = 5

-- of a step of a schedule that may not come
abbrev pub step_refusal : ℕ
step_refusal = 23

-- of a text that is no configuration
abbrev pub configuration_refusal : ℕ
configuration_refusal = 25

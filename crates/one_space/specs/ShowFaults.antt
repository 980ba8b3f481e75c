-- The faults of bad digits.
use Rattle.hex.specs.declared.error.FromHexError.{FromHexError}
use Rattle.hex.specs.declared.error.FromHexError.TheVariants as hex
use Rattle.one_space.specs.declared.digits.BadDigits.TheVariants.{Odd, NoDigit}
use Rattle.one_space.specs.declared.digits.ShowFault.{ShowFault}
use Rattle.one_space.specs.declared.digits.ShowFault.TheVariants.{Malformed, NoMemory}

abbrev pub fault_of_hex : FromHexError → ShowFault
fault_of_hex hex.OutOfMemory = NoMemory
fault_of_hex hex.OddLength = Malformed Odd
fault_of_hex hex.InvalidStringLength = Malformed Odd
fault_of_hex (hex.InvalidHexCharacter c i) = Malformed (NoDigit i)

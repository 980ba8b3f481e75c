-- The lines of a schedule. A step is a name and its arguments, words with one or more blanks between them and blanks
-- at both ends; the last argument of a call is the line of an operation.
use Rattle.std.specs.Prelude.{◌≡◌, ℕ, ◌^◌, ◌<◌, ◌≤◌, length, nat_lt, if◌then◌else◌, List, [], ◌∷◌, ◌++◌, codes, Ok, All}
use Rattle.std.specs.Fmt.{decimal}
use Rattle.terms.specs.declared.parties.TheConstants.{FIRST_CLIENT}
use Rattle.terms.specs.Parties.{client_number, client_party}
use Rattle.hex.specs.Hex.{decode_of}
use Rattle.tuple_text.specs.Lines.{IsLine}
use Rattle.protocol.specs.System.Schedule.{Step}
use Rattle.protocol.specs.System.Schedule.Step.{calls, deliver, feed, seal, sign, ticks, flush}
use Rattle.schedule_text.specs.declared.lines.TheConstants.{MAX_STEP}
use Rattle.schedule_text.specs.Words.{trimmed, first_word, after_word, HasWords}

-- replica 0 stands as r0, client 0 as c0
abbrev pub party_text : ℕ → List ℕ
party_text p = if nat_lt p FIRST_CLIENT then 114 ∷ decimal p else 99 ∷ decimal (client_number p)

-- with commas between them
abbrev pub more_parties_text : List ℕ → List ℕ
more_parties_text [] = []
more_parties_text (p ∷ ps) = 44 ∷ party_text p ++ more_parties_text ps

abbrev pub parties_text : List ℕ → List ℕ
parties_text [] = []
parties_text (p ∷ ps) = party_text p ++ more_parties_text ps

-- Two hexadecimal digits a byte, in either case.
abbrev pub IsHex : List ℕ → List ℕ → Type 0
IsHex bytes digits = decode_of digits ≡ Ok bytes

abbrev pub step_name : Step → List ℕ
step_name (calls client op) = codes "invoke"
step_name (deliver frame party) = codes "deliver"
step_name (feed party bytes) = codes "bytes"
step_name (seal sender receivers body) = codes "seal"
step_name (sign replica leaf receivers body) = codes "sign"
step_name (ticks party) = codes "tick"
step_name flush = codes "flush"

-- the words after the name
abbrev pub Arguments : Step → List ℕ → Type 0
Arguments (calls client op) rest = (first_word rest ≡ decimal client) × IsLine op (after_word rest)
Arguments (deliver frame party) rest = HasWords (decimal frame ∷ party_text party ∷ []) rest
Arguments (feed party bytes) rest =
    (digits : List ℕ) × IsHex bytes digits × HasWords (party_text party ∷ digits ∷ []) rest
Arguments (seal sender receivers body) rest =
    (digits : List ℕ) × IsHex body digits
    × HasWords (party_text sender ∷ parties_text receivers ∷ digits ∷ []) rest
Arguments (sign replica leaf receivers body) rest =
    (digits : List ℕ) × IsHex body digits
    × HasWords (party_text replica ∷ decimal leaf ∷ parties_text receivers ∷ digits ∷ []) rest
Arguments (ticks party) rest = HasWords (party_text party ∷ []) rest
Arguments flush rest = HasWords [] rest

-- The number of a party has two bytes, as in frames, and other numbers have eight.
abbrev pub IsPartyNumber : ℕ → Type 0
IsPartyNumber p = p < 2 ^ 16

abbrev pub IsWord : ℕ → Type 0
IsWord n = n < 2 ^ 64

abbrev pub HasRange : Step → Type 0
HasRange (calls client op) = IsPartyNumber (client_party client)
HasRange (deliver frame party) = IsWord frame × IsPartyNumber party
HasRange (feed party bytes) = IsPartyNumber party
HasRange (seal sender receivers body) = IsPartyNumber sender × All IsPartyNumber receivers
HasRange (sign replica leaf receivers body) = IsPartyNumber replica × IsWord leaf × All IsPartyNumber receivers
HasRange (ticks party) = IsPartyNumber party
HasRange flush = Unit {0}

-- The line is the text of the step. From its first word on it has at most as many bytes as one that brings a frame of
-- the greatest length.
pub record IsStepLine (step : Step) (line : List ℕ) : Type 0 where
  pub named : first_word line ≡ step_name step
  pub arguments : Arguments step (after_word line)
  pub range : HasRange step
  pub size : length (trimmed line) ≤ MAX_STEP

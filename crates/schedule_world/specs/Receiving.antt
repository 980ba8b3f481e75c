-- The correct receivers of frames.
use Rattle.std.specs.Prelude.{◌≡◌, ℕ, List, map, filter, Vec}
use Rattle.std.specs.declared.alloc.Global.{Global}
use Rattle.terms.specs.Parties.{party_number}
use Rattle.terms.specs.declared.parties.Party.{Party}
use Rattle.protocol.specs.System.Configuration.{Configuration, is_correct}

-- the correct ones of these parties
abbrev pub correct_in : Configuration → List ℕ → List ℕ
correct_in c = filter (is_correct c)

-- The parties are the correct ones of these.
abbrev pub AreCorrectOf : Configuration → List ℕ → Vec Party Global → Type 0
AreCorrectOf c numbers parties = map party_number parties.items ≡ correct_in c numbers

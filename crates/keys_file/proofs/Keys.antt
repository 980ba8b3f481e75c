-- What a file's text says, by the front of it that was read.
use Rattle.std.proofs.Common.{◌≡◌, ℕ, ◌+◌, ◌≤◌, List, length, take, Option, None, Some, IfSome, option_map, arith, sym, ◌∙◌, subst}
use Rattle.std.proofs.lemmas.List.{length-take, take_all}
use Rattle.party_keys.specs.Judging.{Because}
use Rattle.party_keys.specs.PartyData.{PartyData}
use Rattle.party_keys.specs.Reading.{SaysFile}
use Rattle.party_keys.specs.declared.fault.FileFault.{FileFault}
use Rattle.party_keys.specs.declared.fault.FileFault.TheVariants as file
use Rattle.party_keys.specs.declared.reading.TheConstants.{MAX_FILE}
use Rattle.keys_file.specs.Reading.{IsFileFault, IsNoFile, RefusesText}
use Rattle.keys_file.specs.declared.fault.KeysFault.{KeysFault}

take_whole : (n : ℕ) (xs : List ℕ) → length (take (n + 1) xs) ≤ n → take (n + 1) xs ≡ xs
take_whole n xs h = let e = length-take (n + 1) xs in take_all (n + 1) xs (omega (arith, h, e))

-- the front of the known bytes was read
pub front_read : (known : Option (List ℕ)) (n : ℕ) (front : List ℕ) → IfSome (option_map (take n) known) (λ xs. front ≡ xs) → IfSome known (λ text. front ≡ take n text)
front_read None n front h = tt
front_read (Some text) n front h = h

-- A front that says keys is the whole text.
pub tells : (known : Option (List ℕ)) (front : List ℕ) (k : PartyData) → IfSome known (λ bytes. front ≡ take (MAX_FILE + 1) bytes) → SaysFile front k → IfSome known (λ bytes. SaysFile bytes k)
tells None front k h says = tt
tells (Some bytes) front k h says =
    subst (λ text. SaysFile text k) (h ∙ take_whole MAX_FILE bytes (subst (λ text. length text ≤ MAX_FILE) h says.size)) says

-- A text that says keys is its own front.
pub refuses : (known : Option (List ℕ)) (front : List ℕ) (why : FileFault) (fault : KeysFault) → IfSome known (λ bytes. front ≡ take (MAX_FILE + 1) bytes)
    → IsFileFault why fault → Because why (IsNoFile front) → IfSome known (λ bytes. RefusesText bytes fault)
refuses None front why fault h told none = tt
refuses (Some bytes) front file.NoMemory fault h told none = subst (RefusesText bytes) (sym told) tt
refuses (Some bytes) front why fault h told none =
    subst (RefusesText bytes) (sym told)
    (λ k says. none k (subst (λ text. SaysFile text k) (sym (h ∙ take_all (MAX_FILE + 1) bytes (let size = says.size in omega (arith, size)))) says))

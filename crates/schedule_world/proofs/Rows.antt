-- The codes under a row that a seed gives.
use Rattle.std.proofs.Common.{◌≡◌, ◌∙◌, ap, refl, ℕ, Bool, true, false, List, Option, Some, None}
use Rattle.std.specs.Prelude.{option_map}
use Rattle.authenticator.specs.Dealing.{dealt_keys}
use Rattle.authenticator.specs.Keys.{dealt, derived_key, mac_between, row, shared_mac}
use Rattle.authenticator.specs.Mac.{hmac_of}
use Rattle.authenticator.specs.RingView.{joins}
use Rattle.authenticator.proofs.Others.{finds_no_other, finds_own}
use Rattle.schedule_world.proofs.Entries.{dealt_mac}

-- each is the one under the key that the seed gives the two
pub row_mac : (seed : List ℕ) (faults clients me from to : ℕ) (text mac : List ℕ) → Some mac ≡ shared_mac (row (dealt_keys seed faults clients me)) from to text
    → mac ≡ mac_between (dealt seed) from to text
row_mac seed faults clients me from to text mac is = go (joins faults clients me from to) refl
  where
    some : Some mac ≡ Some (hmac_of (derived_key seed from to) text) → mac ≡ hmac_of (derived_key seed from to) text
    some e = cc

    go : (own : Bool) → joins faults clients me from to ≡ own → mac ≡ mac_between (dealt seed) from to text
    go true own =
        dealt_mac seed from to text mac (some (is ∙ ap (option_map (λ key. hmac_of key text)) (finds_own seed faults clients me from to own)))
    go false own =
        let none : Some mac ≡ None = is ∙ ap (option_map (λ key. hmac_of key text)) (finds_no_other seed faults clients me from to own) in
        absurd cc

-- Looking through the entries of an authenticator.
use Rattle.std.proofs.Common.{◌≡◌, ◌∙◌, arith, true, false, zero, Contains, refl, [], ◌∷◌, ◌++◌, take, ℕ, suc, ◌+◌, Bool, ◌||◌, List, map, length, drop, slice_get, Option, Some, ◌≤◌, ap, sym}
use Rattle.std.specs.Prelude.{option_map}
use Rattle.std.specs.Option.{option_map_or}
use Rattle.std.proofs.Math.Bool.{or-true}
use Rattle.std.proofs.lemmas.Bool.{and_from, eq-eqb}
use Rattle.std.proofs.lemmas.Slice.Eq.{bytes_eq-Decides}
use Rattle.std.proofs.lemmas.List.{append_assoc, map-append, take-map, drop_all}
use Rattle.terms.specs.declared.parties.Party.{Party}
use Rattle.authenticator.specs.Keys.{Keys, key_between, mac_between, shared_mac}
use Rattle.authenticator.specs.Laws.{ShareKey}
use Rattle.authenticator.specs.Mac.{hmac_of}
use Rattle.authenticator.specs.Sealing.{entry_for}
use Rattle.wire_format.specs.declared.frames.ReceiverMac.{ReceiverMac}
use Rattle.terms.specs.Parties.{party_number}
use Rattle.wire_format.specs.Messages.{MacData}
use Rattle.wire_format.specs.Views.{mac_data}
use Rattle.wire.proofs.Entries.{drop_more}
use Rattle.authenticator.specs.Authentic.{has_mac, has_some_mac, is_mac_for}

-- the test of an entry, and of those after it
pub has_mac-step : (party : ℕ) (mac : List ℕ) (entries : List MacData) (i : ℕ) (entry : MacData) (found : Bool) → slice_get entries i ≡ Some entry → found ≡ is_mac_for party mac entry
    → has_mac party mac (drop i entries) ≡ (found || has_mac party mac (drop (i + 1) entries))
has_mac-step party mac entries i entry found here is = rw (drop_more entries i entry here) (ap (λ b. b || has_mac party mac (drop (i + 1) entries)) (sym is))

-- none is left
pub has_mac-end : (party : ℕ) (mac : List ℕ) (entries : List MacData) (i : ℕ) → length entries ≤ i → has_mac party mac (drop i entries) ≡ false
has_mac-end party mac entries i over = ap (has_mac party mac) (drop_all i entries over)

-- the entries for the first of some receivers are the first of the entries
pub entries-front : (keys : Keys) (sender : ℕ) (text : List ℕ) (n : ℕ) (receivers more : List Party) (entries : List ReceiverMac)
    → map mac_data entries ≡ map (entry_for keys sender text) (map party_number more) → take n more ≡ receivers
    → map mac_data (take n entries) ≡ map (entry_for keys sender text) (map party_number receivers)
entries-front keys sender text n receivers more entries made front =
    sym (take-map mac_data n entries)
    ∙ ap (take n) made
    ∙ take-map (entry_for keys sender text) n (map party_number more)
    ∙ ap (map (entry_for keys sender text)) (take-map party_number n more ∙ ap (map party_number) front)

-- the entries for one more group of receivers are made
pub entries-group : (keys : Keys) (sender : ℕ) (text : List ℕ) (old made new : List ReceiverMac) (group rest left : List Party)
    → map mac_data made ≡ map (entry_for keys sender text) (map party_number group) → new ≡ old ++ made → left ≡ group ++ rest
    → map mac_data new ++ map (entry_for keys sender text) (map party_number rest)
    ≡ map mac_data old ++ map (entry_for keys sender text) (map party_number left)
entries-group keys sender text old made new group rest left right is splits =
    rw (
      is,
      splits,
      map-append mac_data old made,
      map-append party_number group rest,
      map-append (entry_for keys sender text) (map party_number group) (map party_number rest),
      right,
    ) (append_assoc (map mac_data old) (map (entry_for keys sender text) (map party_number group)) (map (entry_for keys sender text) (map party_number rest)))

here-is : (party : ℕ) (mac : List ℕ) → is_mac_for party mac (record { receiver = party; mac = mac }) ≡ true
here-is party mac = and_from _ _ (eq-eqb party party refl) ((bytes_eq-Decides mac mac).1 refl)

-- the entries for parties have that of each of them
pub entries-have : (keys : Keys) (sender : ℕ) (text : List ℕ) (parties : List ℕ) (party : ℕ) → Contains parties party
    → has_mac party (mac_between keys sender party text) (map (entry_for keys sender text) parties) ≡ true
entries-have keys sender text [] party (k, within, is) = absurd (omega arith)
entries-have keys sender text (p ∷ ps) party (zero, within, is) =
    let first : is_mac_for party (mac_between keys sender party text) (entry_for keys sender text p) ≡ true =
    rw is (here-is party (mac_between keys sender party text)) in
    rw first refl
entries-have keys sender text (p ∷ ps) party (suc k, within, is) =
    rw (entries-have keys sender text ps party (k, omega arith, is)) (or-true _)

-- So a party that shares the sender's key finds its entry.
pub shared-have : (keys others : Keys) (sender : ℕ) (text : List ℕ) (parties : List ℕ) (party : ℕ) → Contains parties party
    → ShareKey keys others sender party → has_some_mac party (shared_mac others sender party text) (map (entry_for keys sender text) parties) ≡ true
unfolding key_between
shared-have keys others sender text parties party among share =
    ap (λ (found : Option (List ℕ)). has_some_mac party (option_map (λ key. hmac_of key text) found) (map (entry_for keys sender text) parties)) share.2
    ∙ ap (λ (key : List ℕ). has_mac party (hmac_of key text) (map (entry_for keys sender text) parties))
    (sym (ap (λ (found : Option (List ℕ)). option_map_or (λ key. key) found []) share.1))
    ∙ entries-have keys sender text parties party among

-- A party's file says its keys.
use Rattle.std.proofs.Common.{◌≡◌, ◌≢◌, ℕ, zero, suc, pos, ◌+◌, ◌*◌, ◌<◌, ◌≤◌, Bool, true, List, [], ◌∷◌, length, Option, Some, None, arith, refl, ap, sym, ◌∙◌, subst}
use Rattle.std.specs.Prelude.{All, Contains, Ok, codes}
use Rattle.std.proofs.lemmas.Bool.Decides.{nat_tests}
use Rattle.std.proofs.lemmas.Str.{IsUtf8-from_ascii}
use Rattle.hex.specs.Hex.{encode_lower}
use Rattle.hex.proofs.HexLemmas.{decode_sized-encode_lower}
use Rattle.toml.specs.Data.{Members}
use Rattle.party_keys.specs.Judging.{is_known}
use Rattle.party_keys.specs.PartyData.{HasOwnSeed, IsKey, IsPartyData, PartyData, peers_of, takes_part}
use Rattle.party_keys.specs.Reading.{AreKeyTexts, HasKnownKeys, SaysAll, SaysFile, SaysParty, names_in}
use Rattle.party_keys.specs.Text.{file_text}
use Rattle.party_keys.proofs.Document.{all_bytes, data_with, key_items, reads_back, table_of, SeedBytes}
use Rattle.party_keys.proofs.KnownKeys.{names_known}
use Rattle.party_keys.proofs.Sizes.{SeedIsKey, file_ascii, file_length, most_peers, some_peers}

key_texts : (keys : List (List ℕ)) → All IsKey keys → AreKeyTexts (key_items keys) keys
key_texts [] h = refl
key_texts (key ∷ keys) h =
    let here = h 0 [] (omega arith) in (
      (encode_lower key, refl, decode_sized-encode_lower key 32 here.size here.bytes),
      key_texts keys (λ k d p. h (suc k) d (omega (arith, p))),
    )

module _ (party faults clients period : ℕ) (from to publics : List (List ℕ)) (from_keys : All IsKey from) (to_keys : All IsKey to) (public_keys : All IsKey publics) where
  abbrev k_of : Option (List ℕ) → PartyData
  k_of seed = record { party = party; faults = faults; clients = clients; period = period; from = from; to = to; publics = publics; seed = seed }

  pub says_party : (seed : Option (List ℕ)) → SeedIsKey seed → SaysParty (table_of (k_of seed)) (k_of seed)
  says_party None h =
      record {
        party = refl;
        faults = refl;
        clients = refl;
        period = refl;
        from = (key_items from, refl, key_texts from from_keys);
        to = (key_items to, refl, key_texts to to_keys);
        publics = (key_items publics, refl, key_texts publics public_keys);
        seed = refl;
      }
  says_party (Some seed) h =
      record {
        party = refl;
        faults = refl;
        clients = refl;
        period = refl;
        from = (key_items from, refl, key_texts from from_keys);
        to = (key_items to, refl, key_texts to to_keys);
        publics = (key_items publics, refl, key_texts publics public_keys);
        seed = (seed, refl, (encode_lower seed, refl, decode_sized-encode_lower seed 32 h.size h.bytes));
      }

  pub says_known : (seed : Option (List ℕ)) → HasKnownKeys (table_of (k_of seed))
  unfolding is_known
  says_known None = names_known (names_in (table_of (k_of None))) refl
  says_known (Some seed) = names_known (names_in (table_of (k_of (Some seed)))) refl

seed_is_key : (publics : List (List ℕ)) (party : ℕ) (seed : Option (List ℕ)) → HasOwnSeed publics party seed → SeedIsKey seed
seed_is_key publics party None h = tt
seed_is_key publics party (Some seed) h = h.1

seed_bytes : (seed : Option (List ℕ)) → SeedIsKey seed → SeedBytes seed
seed_bytes None h = tt
seed_bytes (Some seed) h = h.bytes

small_party : (faults clients party : ℕ) → faults ≤ 3 → clients ≤ 256 → takes_part faults clients party ≡ true → party < 1000
small_party faults clients party f k h = grind (arith, nat_tests)

pub says_file : (k : PartyData) → IsPartyData k → SaysFile (file_text k) k
says_file k valid =
    let party : k.party < 1000 = small_party k.faults k.clients k.party valid.most valid.clients valid.part in
    let faults : k.faults < 1000 = omega (arith, valid.most) in
    let clients : k.clients < 1000 = omega (arith, valid.clients) in
    let period : k.period < 1000 = omega (arith, valid.period_most) in
    let few = most_peers k.faults k.clients k.party valid.most valid.clients in
    let some = some_peers k.faults k.clients k.party valid.some_faults in
    let seed = seed_is_key k.publics k.party k.seed valid.own in
    record {
      table = table_of k;
      size = file_length k party faults clients period (omega (arith, few, valid.from_are.0)) (omega (arith, few, valid.to_are.0)) (omega (arith, valid.most, valid.publics_are.0))
          valid.from_are.1 valid.to_are.1 valid.publics_are.1 seed;
      utf8 = IsUtf8-from_ascii (file_text k) (file_ascii k party faults clients period);
      parsed = reads_back k.party k.faults k.clients k.period k.from k.to k.publics k.seed party faults clients period
          (omega (arith, some, valid.from_are.0)) (omega (arith, some, valid.to_are.0)) (omega (arith, valid.some_faults, valid.publics_are.0))
          (all_bytes k.from valid.from_are.1) (all_bytes k.to valid.to_are.1) (all_bytes k.publics valid.publics_are.1) (seed_bytes k.seed seed);
      all = record {
        known = says_known k.party k.faults k.clients k.period k.from k.to k.publics valid.from_are.1 valid.to_are.1 valid.publics_are.1 k.seed;
        party = says_party k.party k.faults k.clients k.period k.from k.to k.publics valid.from_are.1 valid.to_are.1 valid.publics_are.1 k.seed seed;
        valid = valid;
      };
    }

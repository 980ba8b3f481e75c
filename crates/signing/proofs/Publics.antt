-- Public keys by their numbers.
use Rattle.std.proofs.Common.{◌≡◌, ℕ, zero, suc, ◌+◌, ◌*◌, ◌<◌, ◌≤◌, Bool, true, false, cond, List, [], ◌++◌, length, Option, Some, None, sym, ap, ◌∙◌, arith}
use Rattle.std.specs.Prelude.{◌==◌, slice_get, slice_index}
use Rattle.std.specs.Int.{bit_at}
use Rattle.std.specs.Option.{unwrap_or}
use Rattle.std.proofs.lemmas.List.FromFn.{get_or-map-range_with_len, length-map-range_with_len}
use Rattle.std.proofs.lemmas.Option.{slice_get-get_or, slice_get_past, slice_get_within, unwrap_or-slice_get}
use Rattle.sha2.specs.Sha256.{sha256}
use Rattle.sha2.proofs.Facts256.{length-sha256}
use Rattle.authenticator.specs.Keys.{signing_seed}
use Rattle.signing.specs.Merkle.{climbed}
use Rattle.signing.specs.Publics.{derived_publics, public_of}
use Rattle.signing.specs.Signatures.{Verifies, public_key, shown_digest, shown_root, shown_sibling}

how_many : (seed : List ℕ) (faults : ℕ) → length (derived_publics seed faults) ≡ 3 * faults + 1
how_many seed faults = length-map-range_with_len (λ r. public_key (signing_seed seed r)) 0 (3 * faults + 1)

-- that of a replica
pub one_within : (seed : List ℕ) (faults n : ℕ) → n < 3 * faults + 1 → slice_get (derived_publics seed faults) n ≡ Some (public_key (signing_seed seed n))
one_within seed faults n less =
    let count = how_many seed faults in
    slice_get-get_or (derived_publics seed faults) n [] (omega (arith, less, count))
    ∙ ap Some (get_or-map-range_with_len (λ r. public_key (signing_seed seed r)) 0 (3 * faults + 1) n n [] less (omega arith))

pub public_within : (seed : List ℕ) (faults n : ℕ) → n < 3 * faults + 1 → public_of (derived_publics seed faults) n ≡ public_key (signing_seed seed n)
public_within seed faults n less =
    sym (unwrap_or-slice_get (derived_publics seed faults) n [])
    ∙ ap (λ (o : Option (List ℕ)). unwrap_or o []) (one_within seed faults n less)

-- nobody else has one
pub none_beyond : (seed : List ℕ) (faults n : ℕ) → 3 * faults + 1 ≤ n → slice_get (derived_publics seed faults) n ≡ None
none_beyond seed faults n over = let count = how_many seed faults in slice_get_past (derived_publics seed faults) n (omega (arith, over, count))

-- a key that is there is the replica's
pub known_key : (seed : List ℕ) (faults n : ℕ) (key : List ℕ) → slice_get (derived_publics seed faults) n ≡ Some key → key ≡ public_key (signing_seed seed n)
known_key seed faults n key here =
    let within = slice_get_within (derived_publics seed faults) n key here in
    let count = how_many seed faults in
    let same : Some key ≡ Some (public_key (signing_seed seed n)) = sym here ∙ one_within seed faults n (omega (arith, within, count)) in
    cc

-- ---- no signature verifies without a key

length-climbed : (siblings : ℕ → List ℕ) (leaf : ℕ) (digest : List ℕ) (level : ℕ) → length digest ≡ 32 → length (climbed siblings leaf digest level) ≡ 32
unfolding climbed
length-climbed siblings leaf digest zero long = long
length-climbed siblings leaf digest (suc level) long = go (bit_at leaf level == 0)
  where
    go : (b : Bool) → length (cond b (sha256 (climbed siblings leaf digest level ++ siblings level)) (sha256 (siblings level ++ climbed siblings leaf digest level))) ≡ 32
    go true = length-sha256 _
    go false = length-sha256 _

length-shown_root : (signature text : List ℕ) → length (shown_root signature text) ≡ 32
unfolding shown_root shown_digest
length-shown_root signature text = length-climbed (shown_sibling signature) (slice_index signature 0) (shown_digest signature text) 6 (length-sha256 _)

pub no_key : (publics : List (List ℕ)) (n : ℕ) (text signature : List ℕ) → None ≡ slice_get publics n → Verifies (public_of publics n) text signature → ⊥
no_key publics n text signature none verifies =
    let empty : public_of publics n ≡ [] = sym (unwrap_or-slice_get publics n []) ∙ ap (λ (o : Option (List ℕ)). unwrap_or o []) (sym none) in
    let long = length-shown_root signature text in
    let short : length (shown_root signature text) ≡ 0 = ap length (verifies.root ∙ empty) in
    omega (arith, long, short)

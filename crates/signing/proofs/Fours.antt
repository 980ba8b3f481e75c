-- What is hashed of four at once.
use Rattle.std.proofs.Common.{◌≡◌, ◌∙◌, ◌<◌, ◌≤◌, ◌+◌, ◌-◌, ◌*◌, ℕ, zero, suc, List, [], ◌∷◌, ◌++◌, Some, length, map, drop, get_or, refl, sym, ap, subst, inl, inr, arith, rules}
use Rattle.std.specs.Prelude.{slice_get}
use Rattle.std.specs.Int.{w16, to_be_bytes}
use Rattle.std.proofs.lemmas.Bool.{cases_lt}
use Rattle.std.proofs.lemmas.List.{append-nil, take_at, drop_at, places}
use Rattle.std.proofs.lemmas.Option.{get_or_from_slice_get}
use borrow.Rule.Slice.PartMut.{put_mid}
use Rattle.sha2.specs.Sha256.{sha256}
use Rattle.hash_lanes.specs.Midstates.{IsAfter}
use Rattle.hash_lanes.specs.declared.midstate.Midstate.{Midstate}
use Rattle.authenticator.specs.Mac.{hmac_of}
use Rattle.signing.specs.Fours.{HaveTakenIn, four_from, public_hash_at, public_pair, secret_at}
use Rattle.signing.specs.Joined.{end_to_end}
use Rattle.signing.specs.Lamport.{leaf_digest, public_hash, secret}
use Rattle.signing.specs.declared.secrets.Place.{Place}

-- ---- lists of four

pub by_places : {X : Type 0} (xs : List X) (d : X) → length xs ≡ 4
    → xs ≡ get_or xs 0 d ∷ get_or xs 1 d ∷ get_or xs 2 d ∷ get_or xs 3 d ∷ []
by_places [] d four = absurd (omega arith)
by_places (a ∷ []) d four = absurd (omega arith)
by_places (a ∷ b ∷ []) d four = absurd (omega arith)
by_places (a ∷ b ∷ c ∷ []) d four = absurd (omega arith)
by_places (a ∷ b ∷ c ∷ e ∷ []) d four = refl
by_places (a ∷ b ∷ c ∷ e ∷ f ∷ xs) d four = absurd (omega arith)

pub by_lanes : {X : Type 0} (xs : List X) (a b c d : X) → length xs ≡ 4
    → slice_get xs 0 ≡ Some a → slice_get xs 1 ≡ Some b → slice_get xs 2 ≡ Some c → slice_get xs 3 ≡ Some d
    → xs ≡ a ∷ b ∷ c ∷ d ∷ []
by_lanes xs a b c d four p q r s =
    rw (
      ← get_or_from_slice_get xs 0 a a p,
      ← get_or_from_slice_get xs 1 b a q,
      ← get_or_from_slice_get xs 2 c a r,
      ← get_or_from_slice_get xs 3 d a s,
    ) (by_places xs a four)

-- of four numbers in a row
pub at_four : {X : Type 0} (f : ℕ → X) (first : ℕ) (d : X) (k : ℕ) → k < 4 → get_or (map f (four_from first)) k d ≡ f (first + k)
at_four f first d zero within = let none : first ≡ first + 0 = omega arith in ap f none
at_four f first d (suc zero) within = refl
at_four f first d (suc (suc zero)) within = refl
at_four f first d (suc (suc (suc zero))) within = refl
at_four f first d (suc (suc (suc (suc k)))) within = absurd (omega arith)

-- ---- secrets and their hashes

pub secrets_at : (seed : List ℕ) (places : List Place) (d : Place) (p q r s : List ℕ) (secrets : List (List ℕ)) → length places ≡ 4
    → p ≡ to_be_bytes w16 (get_or places 0 d).leaf ++ to_be_bytes w16 (get_or places 0 d).bit ++ (get_or places 0 d).value ∷ []
    → q ≡ to_be_bytes w16 (get_or places 1 d).leaf ++ to_be_bytes w16 (get_or places 1 d).bit ++ (get_or places 1 d).value ∷ []
    → r ≡ to_be_bytes w16 (get_or places 2 d).leaf ++ to_be_bytes w16 (get_or places 2 d).bit ++ (get_or places 2 d).value ∷ []
    → s ≡ to_be_bytes w16 (get_or places 3 d).leaf ++ to_be_bytes w16 (get_or places 3 d).bit ++ (get_or places 3 d).value ∷ []
    → secrets ≡ hmac_of seed p ∷ hmac_of seed q ∷ hmac_of seed r ∷ hmac_of seed s ∷ [] → secrets ≡ map (secret_at seed) places
unfolding secret
secrets_at seed places d p q r s secrets four a b c e coded =
    coded ∙ rw (a, b, c, e) (sym (ap (map (secret_at seed)) (by_places places d four)))

hashes_of : (seed : List ℕ) (places : List Place) → map sha256 (map (secret_at seed) places) ≡ map (public_hash_at seed) places
unfolding public_hash
hashes_of seed [] = refl
hashes_of seed (p ∷ ps) = ap (λ hashes. public_hash_at seed p ∷ hashes) (hashes_of seed ps)

pub hashes_at : (seed : List ℕ) (places : List Place) (secrets hashes : List (List ℕ)) → length secrets ≡ 4 → secrets ≡ map (secret_at seed) places
    → hashes ≡ sha256 (get_or secrets 0 []) ∷ sha256 (get_or secrets 1 []) ∷ sha256 (get_or secrets 2 []) ∷ sha256 (get_or secrets 3 []) ∷ []
    → hashes ≡ map (public_hash_at seed) places
hashes_at seed places secrets hashes four made hashed =
    hashed ∙ ap (map sha256) (sym (by_places secrets [] four) ∙ made) ∙ hashes_of seed places

-- ---- hashes that take in texts

abbrev pub IsAt : List Midstate → ℕ → List ℕ → Type 0
IsAt states lane text = (state : Midstate) × (slice_get states lane ≡ Some state) × IsAfter state text

pub have_taken : (states : List Midstate) (a b c d : List ℕ) → IsAt states 0 a → IsAt states 1 b → IsAt states 2 c → IsAt states 3 d
    → HaveTakenIn (a ∷ b ∷ c ∷ d ∷ []) states
have_taken states a b c d p q r s zero text here = let same : a ≡ text = cc in subst (IsAt states 0) same p
have_taken states a b c d p q r s (suc zero) text here = let same : b ≡ text = cc in subst (IsAt states 1) same q
have_taken states a b c d p q r s (suc (suc zero)) text here = let same : c ≡ text = cc in subst (IsAt states 2) same r
have_taken states a b c d p q r s (suc (suc (suc zero))) text here = let same : d ≡ text = cc in subst (IsAt states 3) same s
have_taken states a b c d p q r s (suc (suc (suc (suc lane)))) text here = absurd cc

pub same_text : (states : List Midstate) (lane : ℕ) (text other : List ℕ) → text ≡ other → IsAt states lane text → IsAt states lane other
same_text states lane text other same at = subst (IsAt states lane) same at

pub same_block : (states : List Midstate) (lane : ℕ) (m block other : List ℕ) → block ≡ other → IsAt states lane (m ++ block) → IsAt states lane (m ++ other)
same_block states lane m block other same at = subst (λ (b : List ℕ). IsAt states lane (m ++ b)) same at

pub state_at : (states : List Midstate) (lane : ℕ) (text : List ℕ) (d : Midstate) → IsAt states lane text → IsAfter (get_or states lane d) text
state_at states lane text d at = subst (λ (s : Midstate). IsAfter s text) (sym (get_or_from_slice_get states lane at.0 d at.1)) at.2

-- a leaf's digest, after all its bits
pub leaf_at : (seed : List ℕ) (leaf bit : ℕ) (digests : List (List ℕ)) (lane : ℕ) → bit ≡ 256
    → slice_get digests lane ≡ Some (sha256 (end_to_end bit (public_pair seed leaf) ++ [])) → slice_get digests lane ≡ Some (leaf_digest seed leaf)
unfolding leaf_digest
leaf_at seed leaf bit digests lane all at = rw (all, append-nil) at at

-- ---- a block of two digests

pub halves : (first second xs zeros ys : List ℕ) → length first ≡ 32 → length zeros ≡ 32 → xs ≡ first → ys ≡ second
    → put_mid 32 32 (xs ++ zeros) ys ≡ first ++ second
halves first second xs zeros ys half rest front back =
    let none : drop 32 zeros ≡ [] = rw (← append-nil zeros) (drop_at zeros [] 32 rest) in
    rw (front, back, take_at first zeros 32 half, drop_at first zeros 32 half, none, append-nil) refl

-- ---- four leaves more at their places

module _ {X : Type 0} (xs ys : List X) (a n : ℕ) (d : X) (there : a ≤ length xs) where
  kept_below : (i : ℕ) → i < a → get_or (put_mid a n xs ys) i d ≡ get_or xs i d
  kept_below i below = search (rules, places)

  put_there : (k : ℕ) → k < length ys → get_or (put_mid a n xs ys) (a + k) d ≡ get_or ys k d
  put_there k within = search (rules, places)

pub leaves_more : (leaves : ℕ → List ℕ) (nodes digests : List (List ℕ)) (group n : ℕ) → length nodes ≡ 128 → group < 16
    → digests ≡ map leaves (four_from (4 * group)) → ((leaf : ℕ) → leaf < 4 * group → get_or nodes (64 + leaf) [] ≡ leaves leaf)
    → (leaf : ℕ) → leaf < 4 * (group + 1) → get_or (put_mid (64 + 4 * group) n nodes digests) (64 + leaf) [] ≡ leaves leaf
leaves_more leaves nodes digests group n whole few are done leaf below =
    let room : 64 + 4 * group ≤ length nodes = omega arith in
    elim (cases_lt leaf (4 * group)) [
      | inl earlier ↦ kept_below nodes digests (64 + 4 * group) n [] room (64 + leaf) (omega arith) ∙ done leaf earlier
      | inr later ↦
          let k = leaf - 4 * group in
          let here : 64 + leaf ≡ 64 + 4 * group + k = omega arith in
          let same : 4 * group + k ≡ leaf = omega arith in
          let four : length digests ≡ 4 = ap length are in
          rw here (put_there nodes digests (64 + 4 * group) n [] room k (omega arith))
          ∙ ap (λ ds. get_or ds k []) are
          ∙ at_four leaves (4 * group) [] k (omega arith)
          ∙ ap leaves same
    ]

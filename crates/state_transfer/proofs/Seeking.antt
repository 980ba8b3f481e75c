-- Which place comes next.
use Rattle.std.proofs.Common.{◌≡◌, ◌≢◌, ℕ, ◌+◌, ◌*◌, ◌-◌, ◌/◌, ◌%◌, ◌<◌, Bool, true, false, ◌&&◌, not, cond, List, [], length, map, take, drop, get_or, slice_get, Option, None, Some, option_and_then, inl, inr, refl, ap, ◌∙◌, sym, subst, arith}
use Rattle.std.proofs.lemmas.Bool.{both_ways, cases_Bool}
use Rattle.std.proofs.lemmas.List.{length-take, length-drop, get_or-take, get_or-drop, get_or-map}
use Rattle.std.proofs.lemmas.List.Elements.{All-get_or}
use Rattle.std.proofs.lemmas.List.FromFn.{get_or-map-range_with_len}
use Rattle.std.proofs.lemmas.Option.{cond_some, slice_get-get_or}
use Rattle.std.proofs.lemmas.Slice.Eq.{bytes_eq-Decides}
use Rattle.std.specs.List.{All, find, range_with_len, flat_map}
use Rattle.std.specs.Option.{option_map_or, is_none, ForSome}
use Rattle.std.specs.Str.{bytes_eq}
use Rattle.sha2.specs.Sha256.{sha256}
use Rattle.terms.specs.declared.state.Level.{Level}
use Rattle.terms.specs.declared.state.Level.TheVariants.{Root, Inner, Page}
use Rattle.partition_tree.specs.Digests.{digest_of_children, page_digests, inner_digest, inner_digests, root_of}
use Rattle.state_transfer.specs.declared.place.Place.{Place}
use Rattle.state_transfer.specs.Differences.{IsFirstDifference}
use Rattle.state_transfer.specs.Keeping.{AreOfChildren}
use Rattle.state_transfer.specs.Places.{IsPlace, root_place, inner_place, page_place, part_places, places}
use Rattle.state_transfer.specs.Seeking.{IsFirstMissing}
use Rattle.state_transfer.specs.Transfer.{TransferData, fitting_children, digest_of_part, pages_of_part, wanted, held_at, differs, is_told_at, is_missing, next_place}
use Rattle.state_transfer.proofs.Finding.{found_none_in_range, found_in_range, found_none_in_blocks, found_in_blocks}

-- ---- digests

same_bytes : (xs ys : List ℕ) → xs ≡ ys → bytes_eq xs ys ≡ true
same_bytes xs ys e = (bytes_eq-Decides xs ys).1 e

other_bytes : (xs ys : List ℕ) → xs ≢ ys → bytes_eq xs ys ≡ false
other_bytes xs ys other = elim (cases_Bool (bytes_eq xs ys)) [
  | inl alike ↦ absurd (other ((bytes_eq-Decides xs ys).0 alike))
  | inr unlike ↦ unlike
]

-- a failed comparison shows that the digests differ
pub digests_differ : (same : Bool) (a b digest : List ℕ) → same ≡ bytes_eq a b → same ≡ false → a ≡ digest → digest ≢ b
digests_differ same a b digest told unlike is e = both_ways same unlike (told ∙ same_bytes a b (is ∙ e))

-- the digest of one page
page_digest : (pages : List (List ℕ)) (j r : ℕ) → length pages ≡ 1024 → j < 32 → r < 32 → get_or (page_digests pages j) r [] ≡ sha256 (get_or pages (32 * j + r) [])
unfolding page_digests
page_digest pages j r all h k =
    let rest = drop (32 * j) pages in
    let long : length rest ≡ length pages - 32 * j = length-drop (32 * j) pages in
    let within : r < length (take 32 rest) = rw (length-take 32 rest) (omega arith) in
    get_or-map sha256 (take 32 rest) r [] [] within
    ∙ ap sha256 (get_or-take 32 rest r [] k ∙ get_or-drop (32 * j) pages r [])

-- the digest of one inner part
part_digest : (pages : List (List ℕ)) (j : ℕ) → j < 32 → get_or (inner_digests pages) j [] ≡ inner_digest pages j
unfolding inner_digests
part_digest pages j h = get_or-map-range_with_len (inner_digest pages) 0 32 j j [] h (omega arith)

pub fitting_is : (digest : List ℕ) (told : Option (List (List ℕ))) (children : List (List ℕ)) → fitting_children digest told ≡ Some children → digest_of_children children ≡ digest
fitting_is digest None children e = cc
fitting_is digest (Some digests) children e =
    let parts = cond_some (bytes_eq (digest_of_children digests) digest) digests children e in
    subst (λ (ds : List (List ℕ)). digest_of_children ds ≡ digest) parts.1 ((bytes_eq-Decides (digest_of_children digests) digest).0 parts.0)

fitting_kept : (digest : List ℕ) (told : Option (List (List ℕ))) (children : List (List ℕ)) → fitting_children digest told ≡ Some children → told ≡ Some children
fitting_kept digest None children e = cc
fitting_kept digest (Some digests) children e = ap Some (cond_some (bytes_eq (digest_of_children digests) digest) digests children e).1

-- the kept digests are of 32 children
pub fitting_whole : (digest : List ℕ) (told : List (Option (List (List ℕ)))) (j : ℕ) (children : List (List ℕ)) → length told ≡ 32 → j < 32
    → All (λ digests. ForSome digests AreOfChildren) told → fitting_children digest (get_or told j None) ≡ Some children → length children ≡ 32
fitting_whole digest told j children count h all e =
    All-get_or (λ (digests : Option (List (List ℕ))). ForSome digests AreOfChildren) told j None (omega arith) all children (fitting_kept digest (get_or told j None) children e)

-- ---- tests of several facts

first_fails : (a b c : Bool) → a ≡ false → ((a && b) && c) ≡ false
first_fails a b c e = rw e refl

second_fails : (a b c d : Bool) → b ≡ false → ((a && (b && c)) && d) ≡ false
second_fails true b c d e = rw e refl
second_fails false b c d e = refl

third_fails : (a b c d e : Bool) → c ≡ false → ((a && (b && (c && d))) && e) ≡ false
third_fails true true c d e f = rw f refl
third_fails true false c d e f = refl
third_fails false b c d e f = refl

all_hold : (a b c d : Bool) → a ≡ true → b ≡ true → c ≡ true → d ≡ true → ((a && (b && c)) && d) ≡ true
all_hold a b c d p q r s = rw (p, q, r, s) refl

last_fails : (a b : Bool) → b ≡ true → (a && not b) ≡ false
last_fails true b e = rw e refl
last_fails false b e = refl

is_told : {A : Type 0} (o : Option A) (x : A) → o ≡ Some x → not (is_none o) ≡ true
is_told o x e = ap (λ p. not (is_none p)) e

module _ (t : TransferData) where
  -- ---- differences

  same : (place : Place) (digest : List ℕ) → wanted t place ≡ Some digest → digest ≡ held_at t.held place.level place.index → differs t place ≡ false
  same place digest e h =
      let held = held_at t.held place.level place.index in
      ap (λ (known : Option (List ℕ)). option_map_or (λ d. not (bytes_eq d held)) known false) e ∙ ap not (same_bytes digest held h)

  other : (place : Place) (digest : List ℕ) → wanted t place ≡ Some digest → digest ≢ held_at t.held place.level place.index → differs t place ≡ true
  other place digest e h =
      let held = held_at t.held place.level place.index in
      ap (λ (known : Option (List ℕ)). option_map_or (λ d. not (bytes_eq d held)) known false) e ∙ ap not (other_bytes digest held h)

  -- ---- if nothing is missing

  missing_in_same_root : differs t root_place ≡ false → (level : Level) (index : ℕ) → is_missing t (record { level = level; index = index }) ≡ false
  missing_in_same_root e Root index = first_fails (differs t root_place) true (not (is_told_at t Root index)) e
  missing_in_same_root e Inner index = first_fails (differs t root_place) (differs t (inner_place index) && true) (not (is_told_at t Inner index)) e
  missing_in_same_root e Page index = first_fails (differs t root_place) (differs t (inner_place (index / 32)) && (differs t (page_place index) && true)) true e

  missing_part_in_same : (j : ℕ) → differs t (inner_place j) ≡ false → is_missing t (inner_place j) ≡ false
  missing_part_in_same j e = second_fails (differs t root_place) (differs t (inner_place j)) true (not (is_told_at t Inner j)) e

  missing_page_in_same : (i j : ℕ) → i / 32 ≡ j → differs t (inner_place j) ≡ false → is_missing t (page_place i) ≡ false
  missing_page_in_same i j h e =
      second_fails (differs t root_place) (differs t (inner_place (i / 32))) (differs t (page_place i) && true) true
      (ap (λ k. differs t (inner_place k)) h ∙ e)

  same_page : (i : ℕ) → differs t (page_place i) ≡ false → is_missing t (page_place i) ≡ false
  same_page i e = third_fails (differs t root_place) (differs t (inner_place (i / 32))) (differs t (page_place i)) true true e

  none_in_same_part : (j : ℕ) → differs t (inner_place j) ≡ false → find (is_missing t) (part_places j) ≡ None
  unfolding part_places
  none_in_same_part j e =
      ap (λ b. cond b (Some (inner_place j)) (find (is_missing t) (map page_place (range_with_len (32 * j) 32)))) (missing_part_in_same j e)
      ∙ found_none_in_range (is_missing t) page_place (32 * j) 32 (λ i h k. missing_page_in_same i j (omega arith) e)

  pub next_in_same : root_of t.held ≡ t.root → next_place t ≡ None
  unfolding next_place places part_places
  next_in_same e =
      let same_root : differs t root_place ≡ false = same root_place t.root refl (sym e) in
      ap (λ b. cond b (Some root_place) (find (is_missing t) (flat_map part_places (range_with_len 0 32)))) (missing_in_same_root same_root Root 0)
      ∙ found_none_in_blocks (is_missing t) part_places 0 32
      (λ j h k.
      ap (λ b. cond b (Some (inner_place j)) (find (is_missing t) (map page_place (range_with_len (32 * j) 32)))) (missing_in_same_root same_root Inner j)
      ∙ found_none_in_range (is_missing t) page_place (32 * j) 32 (λ i l m. missing_in_same_root same_root Page i))

  -- ---- the first missing place

  root_differs : root_of t.held ≢ t.root → differs t root_place ≡ true
  root_differs e = other root_place t.root refl (λ h. e (sym h))

  pub next_is_root : root_of t.held ≢ t.root → t.part_digests ≡ None → next_place t ≡ Some root_place
  unfolding next_place places
  next_is_root e h =
      let found : is_missing t root_place ≡ true = all_hold (differs t root_place) true true (not (is_told_at t Root 0)) (root_differs e) refl refl (ap (λ o. not (not (is_none o))) h) in
      ap (λ b. cond b (Some root_place) (find (is_missing t) (flat_map part_places (range_with_len 0 32)))) found

  -- The digests of the inner parts are known.
  module _ (digests : List (List ℕ)) (known : t.part_digests ≡ Some digests) (full : length digests ≡ 32) (differ : root_of t.held ≢ t.root) where
    pub digest_of_part_is : (j : ℕ) → j < 32 → digest_of_part t j ≡ Some (get_or digests j [])
    digest_of_part_is j h = ap (option_and_then (λ ds. slice_get ds j)) known ∙ slice_get-get_or digests j [] (omega arith)

    part_differs : (j : ℕ) → j < 32 → get_or digests j [] ≢ get_or (inner_digests t.held) j [] → differs t (inner_place j) ≡ true
    part_differs j h e = other (inner_place j) (get_or digests j []) (digest_of_part_is j h) (λ k. e (k ∙ sym (part_digest t.held j h)))

    part_same : (j : ℕ) → j < 32 → get_or digests j [] ≡ get_or (inner_digests t.held) j [] → differs t (inner_place j) ≡ false
    part_same j h e = same (inner_place j) (get_or digests j []) (digest_of_part_is j h) (e ∙ part_digest t.held j h)

    pub pages_of_part_is : (j : ℕ) → j < 32 → pages_of_part t j ≡ fitting_children (get_or digests j []) (get_or t.page_digests j None)
    pages_of_part_is j h = ap (option_and_then (λ digest. fitting_children digest (get_or t.page_digests j None))) (digest_of_part_is j h)

    -- The first part that differs is j.
    module _ (j : ℕ) (first : IsFirstDifference digests (inner_digests t.held) j) where
      next_in_part : (place : Place) → find (is_missing t) (part_places j) ≡ Some place → next_place t ≡ Some place
      unfolding next_place places
      next_in_part place e =
          ap (λ b. cond b (Some root_place) (find (is_missing t) (flat_map part_places (range_with_len 0 32)))) (last_fails (differs t root_place && true) (is_told_at t Root 0) (is_told t.part_digests digests known))
          ∙ found_in_blocks (is_missing t) part_places place 0 32 j (omega arith) first.in_range e
          (λ k h l. none_in_same_part k (part_same k (let m = first.in_range in omega arith) (first.before k l)))

      pub next_is_part : pages_of_part t j ≡ None → next_place t ≡ Some (inner_place j)
      unfolding part_places
      next_is_part e =
          let found : is_missing t (inner_place j) ≡ true = all_hold (differs t root_place) (differs t (inner_place j)) true (not (is_told_at t Inner j)) (root_differs differ) (part_differs j first.in_range first.differs) refl (ap (λ o. not (not (is_none o))) e) in
          next_in_part (inner_place j) (ap (λ b. cond b (Some (inner_place j)) (find (is_missing t) (map page_place (range_with_len (32 * j) 32)))) found)

      -- The digests of its pages are known.
      module _ (pages : List (List ℕ)) (got : pages_of_part t j ≡ Some pages) (whole : length pages ≡ 32) (all : length t.held ≡ 1024) where
        pub digest_of_page_is : (r : ℕ) → r < 32 → wanted t (page_place (32 * j + r)) ≡ Some (get_or pages r [])
        digest_of_page_is r h =
            let part : (32 * j + r) / 32 ≡ j = omega arith in
            let child : (32 * j + r) % 32 ≡ r = omega arith in
            ap (λ k. option_and_then (λ ds. slice_get ds ((32 * j + r) % 32)) (pages_of_part t k)) part
            ∙ ap (option_and_then (λ ds. slice_get ds ((32 * j + r) % 32))) got
            ∙ ap (slice_get pages) child
            ∙ slice_get-get_or pages r [] (omega arith)

        pub next_is_page : (r : ℕ) → IsFirstDifference pages (page_digests t.held j) r → next_place t ≡ Some (page_place (32 * j + r))
        unfolding part_places
        next_is_page r page =
            let small : j < 32 = first.in_range in
            let child : r < 32 = page.in_range in
            let part : (32 * j + r) / 32 ≡ j = omega arith in
            let page_differs : differs t (page_place (32 * j + r)) ≡ true = other (page_place (32 * j + r)) (get_or pages r []) (digest_of_page_is r child) (λ e. page.differs (e ∙ sym (page_digest t.held j r all small child))) in
            let around : differs t (inner_place ((32 * j + r) / 32)) ≡ true = ap (λ k. differs t (inner_place k)) part ∙ part_differs j small first.differs in
            let found : is_missing t (page_place (32 * j + r)) ≡ true = all_hold (differs t root_place) (differs t (inner_place ((32 * j + r) / 32))) (differs t (page_place (32 * j + r)) && true) true (root_differs differ) around (ap (λ b. b && true) page_differs) refl in
            next_in_part (page_place (32 * j + r))
            (ap (λ b. cond b (Some (inner_place j)) (find (is_missing t) (map page_place (range_with_len (32 * j) 32))))
            (last_fails (differs t root_place && (differs t (inner_place j) && true)) (is_told_at t Inner j) (is_told (pages_of_part t j) pages got))
            ∙ found_in_range (is_missing t) page_place (32 * j) 32 (32 * j + r) (omega arith) (omega arith) found
            (λ i h l.
            let s = i - 32 * j in
            let at : 32 * j + s ≡ i = omega arith in
            let below : s < r = omega arith in
            let within : s < 32 = omega arith in
            let same_text : differs t (page_place (32 * j + s)) ≡ false = same (page_place (32 * j + s)) (get_or pages s []) (digest_of_page_is s within) (page.before s below ∙ page_digest t.held j s all small within) in
            subst (λ (k : ℕ). is_missing t (page_place k) ≡ false) at (same_page (32 * j + s) same_text)))

-- ---- the place that the code finds

pub root_is_first : (t : TransferData) (place : Place) → root_of t.held ≢ t.root → t.part_digests ≡ None → place ≡ root_place → IsFirstMissing t (record { place = place; digest = t.root })
root_is_first t place differ unknown is = record {
  first = next_is_root t differ unknown ∙ ap Some (sym is);
  place = subst IsPlace (sym is) (omega arith);
  wanted = ap (wanted t) is;
  differs = differ;
}

module _ (t : TransferData) (digests : List (List ℕ)) (known : t.part_digests ≡ Some digests) (full : length digests ≡ 32) (differ : root_of t.held ≢ t.root)
    (j : ℕ) (first : IsFirstDifference digests (inner_digests t.held) j) where
  pub part_is_first : (place : Place) → fitting_children (get_or digests j []) (get_or t.page_digests j None) ≡ None → place ≡ inner_place j
      → IsFirstMissing t (record { place = place; digest = get_or digests j [] })
  part_is_first place none is = record {
    first = next_is_part t digests known full differ j first (pages_of_part_is t digests known full differ j first.in_range ∙ none) ∙ ap Some (sym is);
    place = subst IsPlace (sym is) first.in_range;
    wanted = ap (wanted t) is ∙ digest_of_part_is t digests known full differ j first.in_range;
    differs = differ;
  }

  module _ (pages : List (List ℕ)) (got : fitting_children (get_or digests j []) (get_or t.page_digests j None) ≡ Some pages) where
    -- some page differs
    pub pages_differ : pages ≢ page_digests t.held j
    pages_differ e =
        first.differs (sym (fitting_is (get_or digests j []) (get_or t.page_digests j None) pages got) ∙ ap digest_of_children e ∙ sym (part_digest t.held j first.in_range))

    pub page_is_first : (place : Place) (r : ℕ) → length pages ≡ 32 → length t.held ≡ 1024 → IsFirstDifference pages (page_digests t.held j) r → place ≡ page_place (32 * j + r)
        → IsFirstMissing t (record { place = place; digest = get_or pages r [] })
    page_is_first place r whole all page is =
        let told = pages_of_part_is t digests known full differ j first.in_range ∙ got in
        let small : j < 32 = first.in_range in
        let child : r < 32 = page.in_range in
        let within : 32 * j + r < 1024 = omega arith in
        record {
          first = next_is_page t digests known full differ j first pages told whole all r page ∙ ap Some (sym is);
          place = subst IsPlace (sym is) within;
          wanted = ap (wanted t) is ∙ digest_of_page_is t digests known full differ j first pages told whole all r child;
          differs = differ;
        }

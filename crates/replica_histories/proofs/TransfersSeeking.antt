-- The place that a transfer asks for next is the first part that differs from the state in place.
use Rattle.std.proofs.Common.{◌≡◌, ◌≢◌, ℕ, zero, suc, ◌+◌, ◌*◌, ◌/◌, ◌%◌, ◌<◌, ◌⊎◌, inl, inr, Bool, true, false, List, [], ◌∷◌, length, map, get_or, refl, sym, ap, ◌∙◌, subst, arith, Option, Some, None}
use Rattle.std.specs.Prelude.{bytes_eq}
use Rattle.std.specs.Bool.{then_some}
use Rattle.std.specs.List.{range_with_len}
use Rattle.std.specs.Option.{option_map_or}
use Rattle.std.proofs.lemmas.Bool.{cases_Bool, both_ways}
use Rattle.std.proofs.lemmas.List.{ext_get_or}
use Rattle.std.proofs.lemmas.List.FromFn.{get_or-map-range_with_len, length-map-range_with_len}
use Rattle.std.proofs.lemmas.Option.{slice_get-get_or}
use Rattle.std.proofs.lemmas.Slice.Eq.{bytes_eq-Decides}
use Rattle.sha2.specs.Sha256.{sha256}
use Rattle.terms.specs.declared.state.Level.{Level}
use Rattle.terms.specs.declared.state.Level.TheVariants as levels
use Rattle.partition_tree.specs.Digests.{digest_of_children, page_digests, inner_digest, inner_digests, root_of as root_of_pages}
use Rattle.wire_format.specs.Messages.{meta as Meta}
use Rattle.protocol.specs.System.Configuration.{Configuration}
use Rattle.protocol.specs.System.Trace.{Entry, Once, Receives}
use Rattle.protocol.specs.System.Trace.Entry.{Got}
use Rattle.protocol.specs.Replica.State.{State, page_text, all_pages}
use Rattle.protocol.specs.Replica.Transfers.{GotBelow, NoneAsked, IsFirstToDiffer, DiffersFirst, IsNextPart, in_place}
use Rattle.protocol.proofs.Words.Options.{some_injective}
use Rattle.protocol.proofs.Words.Roots.{pages_part}
use Rattle.state_transfer.specs.declared.place.Place.{Place}
use Rattle.state_transfer.specs.Differences.{IsFirstDifference}
use Rattle.state_transfer.specs.Places.{inner_place, page_place}
use Rattle.state_transfer.specs.Transfer.{TransferData, fitting_children, pages_of_part, next_place}
use Rattle.state_transfer.proofs.Seeking as Seeking
use Rattle.replica_histories.specs.Transfers.{page_held, is_fetched, known_below, TransferMayAsk, RestsOnState, NextsAreFirst}
use Rattle.replica_histories.proofs.Transfers.{heard_valid, fitting_got}

-- ---- the first of two lists' differences

record Difference (n : ℕ) (xs ys : List (List ℕ)) : Type 0 where
  at : ℕ
  within : at < n
  differs : get_or xs at [] ≢ get_or ys at []
  before : (k : ℕ) → k < at → get_or xs k [] ≡ get_or ys k []

difference_later : (n : ℕ) (x y : List ℕ) (xs ys : List (List ℕ)) → x ≡ y → Difference n xs ys → Difference (suc n) (x ∷ xs) (y ∷ ys)
difference_later n x y xs ys same d = record { at = suc d.at; within = let l = d.within in omega arith; differs = d.differs; before = before }
  where
    before : (k : ℕ) → k < suc d.at → get_or (x ∷ xs) k [] ≡ get_or (y ∷ ys) k []
    before zero l = same
    before (suc k) l = d.before k (omega arith)

difference_here : (n : ℕ) (x y : List ℕ) (xs ys : List (List ℕ)) → x ≢ y → Difference (suc n) (x ∷ xs) (y ∷ ys)
difference_here n x y xs ys other = record { at = zero; within = omega arith; differs = other; before = λ k l. absurd (omega arith) }

-- lists of one length that are not the same differ somewhere first
first_difference : (n : ℕ) (xs ys : List (List ℕ)) → length xs ≡ n → length ys ≡ n → xs ≢ ys → Difference n xs ys
first_difference zero [] [] a b other = absurd (other refl)
first_difference zero [] (y ∷ ys) a b other = absurd (omega arith)
first_difference zero (x ∷ xs) ys a b other = absurd (omega arith)
first_difference (suc n) [] ys a b other = absurd (omega arith)
first_difference (suc n) (x ∷ xs) [] a b other = absurd (omega arith)
first_difference (suc n) (x ∷ xs) (y ∷ ys) a b other = go (cases_Bool (bytes_eq x y)) (λ tails. first_difference n xs ys (omega arith) (omega arith) tails)
  where
    go : (bytes_eq x y ≡ true) ⊎ (bytes_eq x y ≡ false) → (xs ≢ ys → Difference n xs ys) → Difference (suc n) (x ∷ xs) (y ∷ ys)
    go (inl same) later = let is : x ≡ y = (bytes_eq-Decides x y).0 same in difference_later n x y xs ys is (later (λ tails. other (heads is tails)))
      where
        heads : x ≡ y → xs ≡ ys → ◌≡◌ {A = List (List ℕ)} (x ∷ xs) (y ∷ ys)
        heads h t = rw (h, t) refl
    go (inr unlike) later = difference_here n x y xs ys (λ is. both_ways (bytes_eq x y) unlike ((bytes_eq-Decides x y).1 is))

-- ---- received digests

-- are those of 32 children
heard_full : (c : Configuration) (me s n index : ℕ) (level : Level) (digests : List (List ℕ)) (e : Entry) (past : List Entry) → Receives c me (record { sender = s; message = Meta n level index digests }) past e → length digests ≡ 32
heard_full c me s n index level digests (Got p bytes) past h = (heard_valid c me bytes (record { sender = s; message = Meta n level index digests }) h).3
heard_full c me s n index level digests _ past h = absurd h

once_full : (c : Configuration) (me s n index : ℕ) (level : Level) (digests : List (List ℕ)) (past : List Entry) → Once (Receives c me (record { sender = s; message = Meta n level index digests })) past → length digests ≡ 32
once_full c me s n index level digests [] h = absurd h
once_full c me s n index level digests (e ∷ past) (inl h) = heard_full c me s n index level digests e past h
once_full c me s n index level digests (e ∷ past) (inr h) = once_full c me s n index level digests past h

got_full : (c : Configuration) (me index : ℕ) (level : Level) (digest : List ℕ) (digests : List (List ℕ)) (past : List Entry) → GotBelow c me past level index digest digests → length digests ≡ 32
got_full c me index level digest digests past g = once_full c me g.1.0 g.1.1 index level digests past g.1.2

-- ---- the held pages are those in place

module _ (c : Configuration) (me : ℕ) (t : TransferData) (st : State) (history : List Entry) (may : TransferMayAsk c me t st.number history) (rests : RestsOnState t st) (long : length t.held ≡ 1024) where
  abbrev here : ℕ → List ℕ
  here = in_place c me t.number history st

  held_here : (i : ℕ) → i < 1024 → page_held t i ≡ here i
  held_here i l = go (is_fetched t i) refl ∙ sym (ap (λ (o : Option (List ℕ)). option_map_or (λ x. x) o (page_text st i)) (may.taken i l))
    where
      go : (b : Bool) → is_fetched t i ≡ b → page_held t i ≡ option_map_or (λ x. x) (then_some b (page_held t i)) (page_text st i)
      go true e = refl
      go false e = rests i l e

  pages_here : t.held ≡ all_pages here
  unfolding all_pages
  pages_here = ext_get_or [] t.held (map here (range_with_len 0 1024)) (long ∙ sym (length-map-range_with_len here 0 1024))
      (λ i l. let small : i < 1024 = omega arith in held_here i small ∙ sym (get_or-map-range_with_len here 0 1024 i i [] small (omega arith)))

  -- digests of pages in place
  page_digest_here : (j r : ℕ) → j < 32 → r < 32 → get_or (page_digests t.held j) r [] ≡ sha256 (here (32 * j + r))
  page_digest_here j r l m =
      ap (λ (ps : List (List ℕ)). get_or (page_digests ps j) r []) pages_here
      ∙ ap (λ (ds : List (List ℕ)). get_or ds r []) (pages_part here j l)
      ∙ get_or-map-range_with_len (λ i. sha256 (here i)) (32 * j) 32 r (32 * j + r) [] m (omega arith)

  part_digest_held : (j : ℕ) → j < 32 → get_or (inner_digests t.held) j [] ≡ inner_digest t.held j
  unfolding inner_digests
  part_digest_held j l = get_or-map-range_with_len (inner_digest t.held) 0 32 j j [] l (omega arith)

  part_digest_here : (j : ℕ) → j < 32 → get_or (inner_digests t.held) j [] ≡ inner_digest (all_pages here) j
  part_digest_here j l = part_digest_held j l ∙ ap (λ (ps : List (List ℕ)). inner_digest ps j) pages_here

  full_pages : (j : ℕ) → j < 32 → length (page_digests t.held j) ≡ 32
  full_pages j l =
      ap (λ (ps : List (List ℕ)). length (page_digests ps j)) pages_here
      ∙ ap (λ (ds : List (List ℕ)). length ds) (pages_part here j l)
      ∙ length-map-range_with_len (λ i. sha256 (here i)) (32 * j) 32

  full_parts : length (inner_digests t.held) ≡ 32
  unfolding inner_digests
  full_parts = length-map-range_with_len (inner_digest t.held) 0 32

  -- a first difference of lists is one from the state in place
  abbrev to_differ : (wanted held : List (List ℕ)) (now : ℕ → List ℕ) → length wanted ≡ 32 → ((k : ℕ) → k < 32 → get_or held k [] ≡ now k) → (d : Difference 32 wanted held) → IsFirstToDiffer wanted now d.at
  to_differ wanted held now full is d = record {
    before = λ k l. let m = d.within in slice_get-get_or wanted k [] (omega arith) ∙ ap Some (d.before k l ∙ is k (omega arith));
    digest = get_or wanted d.at [];
    wants = let m = d.within in slice_get-get_or wanted d.at [] (omega arith);
    differs = λ same. d.differs (same ∙ sym (is d.at d.within));
  }

  as_first : (wanted held : List (List ℕ)) (d : Difference 32 wanted held) → IsFirstDifference wanted held d.at
  as_first wanted held d = record { in_range = d.within; differs = d.differs; before = d.before }

  -- ---- the next place

  module _ (place : Place) (next : next_place t ≡ Some place) (none : NoneAsked history) (digests : List (List ℕ)) (told : t.part_digests ≡ Some digests) where
    got : GotBelow c me history levels.Root 0 t.root digests
    got = may.aims.inner digests told

    full : length digests ≡ 32
    full = got_full c me 0 levels.Root t.root digests history got

    differ : root_of_pages t.held ≢ t.root
    differ same = let bad : None ≡ Some place = sym (Seeking.next_in_same t same) ∙ next in absurd cc

    parts_differ : digests ≢ inner_digests t.held
    parts_differ same = differ (sym (ap digest_of_children same) ∙ got.0)

    d : Difference 32 digests (inner_digests t.held)
    d = first_difference 32 digests (inner_digests t.held) full full_parts parts_differ

    abbrev j : ℕ
    j = d.at

    abbrev part : DiffersFirst c me history here t.root j
    part = record { digests = digests; got = got; first = to_differ digests (inner_digests t.held) (inner_digest (all_pages here)) full (λ k l. part_digest_here k l) d }

    abbrev Next : Place → Type 0
    Next p = IsNextPart c me history here t.number t.root p.level p.index

    -- a page of a part that differs first
    page_is : (i k x : ℕ) → i / 32 ≡ k → i % 32 ≡ x → (pages : List (List ℕ)) (p : DiffersFirst c me history here t.root k) → GotBelow c me history levels.Inner k p.first.digest pages
        → IsFirstToDiffer pages (λ n. sha256 (here (32 * k + n))) x → IsNextPart c me history here t.number t.root levels.Page i
    page_is i k x q m pages = subst (λ (b : ℕ). P k b) m (subst (λ (a : ℕ). P a (i % 32)) q (λ p g f. (none, p, pages, g, f)))
      where
        P : ℕ → ℕ → Type 0
        P a b = (p : DiffersFirst c me history here t.root a) → GotBelow c me history levels.Inner a p.first.digest pages → IsFirstToDiffer pages (λ n. sha256 (here (32 * a + n))) b
            → IsNextPart c me history here t.number t.root levels.Page i

    at : (p : Place) → next_place t ≡ Some p → Next p → Next place
    at p is h = subst Next (some_injective p place (sym is ∙ next)) h

    -- the digests of its pages are not known
    inner_next : pages_of_part t j ≡ None → Next place
    inner_next unknown = at (inner_place j) (Seeking.next_is_part t digests told full differ j (as_first digests (inner_digests t.held) d) unknown) (none, part)

    -- or they are
    page_next : (pages : List (List ℕ)) → pages_of_part t j ≡ Some pages → Next place
    page_next pages known =
        let small : e.at < 32 = e.within in
        at (page_place (32 * j + e.at)) (Seeking.next_is_page t digests told full differ j (as_first digests (inner_digests t.held) d) pages known whole long e.at (as_first pages (page_digests t.held j) e))
        (page_is (32 * j + e.at) j e.at (omega arith) (omega arith) pages part (fitting_got c me history j (get_or digests j []) (known_below t j) pages (may.aims.parts j) fits)
        (to_differ pages (page_digests t.held j) (λ x. sha256 (here (32 * j + x))) whole (λ k l. page_digest_here j k d.within l) e))
      where
        fits : fitting_children (get_or digests j []) (known_below t j) ≡ Some pages
        fits = sym (Seeking.pages_of_part_is t digests told full differ j d.within) ∙ known

        whole : length pages ≡ 32
        whole = got_full c me j levels.Inner (get_or digests j []) pages history (fitting_got c me history j (get_or digests j []) (known_below t j) pages (may.aims.parts j) fits)

        pages_differ : pages ≢ page_digests t.held j
        pages_differ same = d.differs (sym (Seeking.fitting_is (get_or digests j []) (known_below t j) pages fits) ∙ ap digest_of_children same ∙ sym (part_digest_held j d.within))

        e : Difference 32 pages (page_digests t.held j)
        e = first_difference 32 pages (page_digests t.held j) whole (full_pages j d.within) pages_differ

    next_is_first : Next place
    next_is_first = go (pages_of_part t j) refl
      where
        go : (o : Option (List (List ℕ))) → pages_of_part t j ≡ o → Next place
        go None h = inner_next h
        go (Some pages) h = page_next pages h

pub nexts_are_first : NextsAreFirst
nexts_are_first c me t st history place may rests long none told next = next_is_first c me t st history may rests long place next none told.0 told.1

-- The pages that were read make a state.
use Rattle.std.proofs.Common.{◌≡◌, ℕ, ◌+◌, ◌%◌, ◌^◌, ◌≤◌, ◌<◌, List, [], ◌∷◌, ◌++◌, length, set, get_or, refl, sym, ap}
use Rattle.std.proofs.Common.{subst, ◌∙◌, arith, inl, inr}
use Rattle.std.specs.Prelude.{◌==◌, All}
use Rattle.std.specs.Int.{w64, to_be_bytes}
use Rattle.std.proofs.lemmas.Bool.{cases_eq, cases_lt}
use Rattle.std.proofs.lemmas.List.{get_or-set_same, get_or-set_other, length-set}
use Rattle.std.proofs.lemmas.List.Elements.{All-nil, All-filter, filter_passes}
use Rattle.std.proofs.lemmas.List.Kept.{AllPairs-filter}
use Rattle.std.proofs.lemmas.List.Sums.{length-filter}
use Rattle.std.proofs.lemmas.Bool.{eqb-true}
use Rattle.tuple_tree.specs.Values.{IsTuple}
use Rattle.space.specs.Births.{BornTuple, SpaceState, IsState, page_count}
use Rattle.space.specs.Counted.{PagesAreCounted}
use Rattle.space.specs.Applying.{most_tuples}
use Rattle.space.specs.Pages.{ArePagesOfTuples, MayBePages, entries_text, on_page, version_byte}
use Rattle.space.specs.Reading.{IsPage, IsPageRead, ArePagesRead, ArePagesOf, IsHeader}
use Rattle.space.specs.declared.version.Version.{Version}
use Rattle.space.proofs.Determining.{entries_same, entries_from_pages, on_page_fits, pages_determine}
use Rattle.space.proofs.Loading.{on_page-all, IsPage-fits}

page_count-on_page : (es : List BornTuple) (page : ℕ) → page_count es page ≡ length (on_page page es)
unfolding on_page
page_count-on_page es page = sym (length-filter (λ e. e.0 % 256 == page) es)

all_from_pages : (P : BornTuple → Type 0) (es : List BornTuple) → ((page : ℕ) → page < 256 → All P (on_page page es)) → All P es
all_from_pages P es h k d l =
    let page : ℕ = (get_or es k d).0 % 256 in
    on_page-all P page es (h page (omega arith)) k d l refl

-- the tuples of a page of a state
pub IsPage-of_state : (s : SpaceState) (page : ℕ) → IsState s → IsPage page s.next (on_page page s.entries)
unfolding on_page
IsPage-of_state s page h = record {
  rising = AllPairs-filter (λ e f. e.0 < f.0) (λ e. e.0 % 256 == page) s.entries h.rising;
  below_next = All-filter (λ e. e.0 % 256 == page) (λ e. e.0 < s.next) s.entries h.below_next;
  here = λ k d l. eqb-true _ page (filter_passes (λ (e : BornTuple). e.0 % 256 == page) s.entries k d l);
  few = let m = h.pages page in omega (arith, length-filter (λ e. e.0 % 256 == page) s.entries);
  tuples = All-filter (λ e. e.0 % 256 == page) (λ e. IsTuple e.1) s.entries h.tuples;
}

-- the texts are so many as pages, and the header is that of a state with no tuples
pub MayBePages-read : (texts : List (List ℕ)) (header : List ℕ) (v : Version) (number next : ℕ) → length texts ≡ 256 → IsHeader header v number next → MayBePages texts header
MayBePages-read texts header v number next all h =
    let s : SpaceState = record { version = v; entries = []; next = next } in
    let valid : IsState s = record { rising = λ i j d l m. absurd (omega arith); below_next = All-nil _; pages = λ page. omega arith; count = omega arith; tuples = All-nil _ } in
    record {
      all = all;
      heading = (s, number, record { state = valid; births = h.births; few = h.few }, h.spelled);
    }

-- ---- page by page

pub ArePagesRead-none : (v : Version) (next : ℕ) (texts : List (List ℕ)) (counts : List ℕ) → ((page : ℕ) → page < 256 → get_or counts page 0 ≡ 0) → length counts ≡ 256 → ArePagesRead v 0 next texts [] counts
unfolding on_page
ArePagesRead-none v next texts counts zero long = record {
  rising = λ i j d l m. absurd (omega arith);
  valid = λ page l. absurd (omega arith);
  spelled = λ page l. absurd (omega arith);
  unread = λ page l. refl;
  counted = zero;
  long = long;
}

pub ArePagesRead-more : (v : Version) (n next : ℕ) (texts : List (List ℕ)) (text : List ℕ) (old new : List BornTuple) (counts : List ℕ) (count : ℕ) → ArePagesRead v n next texts old counts → n < 256
    → get_or texts n [] ≡ text → IsPageRead v n next text old new → count ≡ length (on_page n new) → ArePagesRead v (n + 1) next texts new (set counts n count)
ArePagesRead-more v n next texts text old new counts count h l is read counted = record {
  rising = read.rising;
  valid = λ page m. elim (cases_eq page n) [
    | inl same ↦ subst (λ p. IsPage p next (on_page p new)) (sym same) read.valid
    | inr other ↦ subst (IsPage page next) (sym (read.others page other)) (h.valid page (omega arith))
  ];
  spelled = λ page m. elim (cases_eq page n) [
    | inl same ↦ subst (λ p. get_or texts p [] ≡ entries_text v (on_page p new)) (sym same) (is ∙ read.spelled)
    | inr other ↦ h.spelled page (omega arith) ∙ ap (entries_text v) (sym (read.others page other))
  ];
  unread = λ page m. read.others page (λ same. absurd (omega arith)) ∙ h.unread page (omega arith);
  counted = λ page m. elim (cases_eq page n) [
    | inl same ↦ subst (λ p. get_or (set counts n count) p 0 ≡ length (on_page p new)) (sym same) (get_or-set_same counts n count 0 (omega (arith, h.long)) ∙ counted)
    | inr other ↦ get_or-set_other counts n page count 0 other ∙ h.counted page m ∙ ap length (sym (read.others page other))
  ];
  long = length-set counts n count ∙ h.long;
}

-- ---- all pages

module _ (v : Version) (next : ℕ) (texts : List (List ℕ)) (es : List BornTuple) (counts : List ℕ) (h : ArePagesRead v 256 next texts es counts) where
  IsState-read : length es ≤ most_tuples v → IsState (record { version = v; entries = es; next = next })
  IsState-read few = record {
    rising = h.rising;
    below_next = all_from_pages (λ e. e.0 < next) es (λ page l. (h.valid page l).below_next);
    pages = λ page. elim (cases_lt page 256) [
      | inl l ↦ let m = (h.valid page l).few in omega (arith, page_count-on_page es page)
      | inr l ↦ omega (arith, page_count-on_page es page, ap length (h.unread page l))
    ];
    count = few;
    tuples = all_from_pages (λ e. IsTuple e.1) es (λ page l. (h.valid page l).tuples);
  }

  pub IsCounted-read : length es ≤ most_tuples v → PagesAreCounted v es next counts
  IsCounted-read few = record { state = IsState-read few; counted = λ page l. h.counted page l ∙ sym (page_count-on_page es page) }

  pub ArePagesOf-read : length es ≤ most_tuples v → ArePagesOf v next texts (record { version = v; entries = es; next = next })
  ArePagesOf-read few = record { state = IsState-read few; version = refl; same_next = refl; each = h.spelled }

  -- a state with these pages has these tuples
  pub same_entries : (s : SpaceState) → next < 2 ^ 64 → ArePagesOf v next texts s → es ≡ s.entries
  same_entries s l of =
      entries_from_pages es s.entries h.rising of.state.rising (λ page m.
      let fits = on_page_fits s page of.state (subst (λ n. n < 2 ^ 64) (sym of.same_next) l) in
      entries_same v (on_page page es) (on_page page s.entries) (IsPage-fits page next (on_page page es) l (h.valid page m)) fits (sym (h.spelled page m) ∙ of.each page m ∙ ap (λ w. entries_text w (on_page page s.entries)) of.version))

pub ArePages-read : (texts : List (List ℕ)) (header : List ℕ) (s : SpaceState) (v : Version) (number next : ℕ) → length texts ≡ 256 → IsHeader header v number next → ArePagesOf v next texts s → ArePagesOfTuples texts header s number
ArePages-read texts header s v number next all head of =
    let same = of.same_next in
    let births = head.births in
    record {
      state = record { state = of.state; births = omega arith; few = head.few };
      heading = head.spelled ∙ ap (λ w. version_byte w ∷ to_be_bytes w64 number ++ to_be_bytes w64 next) (sym of.version)
          ∙ ap (λ n. version_byte s.version ∷ to_be_bytes w64 number ++ to_be_bytes w64 n) (sym same);
      all = all;
      each = of.each;
    }

-- what one state's pages are, no other's are
pub ArePages-one : (texts : List (List ℕ)) (header : List ℕ) (s t : SpaceState) (m n : ℕ) → ArePagesOfTuples texts header s m → ArePagesOfTuples texts header t n → (s ≡ t) × (m ≡ n)
ArePages-one texts header s t m n h k =
    let d = pages_determine s t m n h.state k.state (sym h.heading ∙ k.heading) (λ page l. sym (h.each page l) ∙ k.each page l) in
    (d.1, d.0)

-- The tuples of a page, and their text.
use Rattle.std.proofs.Common.{◌≡◌, ℕ, ◌%◌, Bool, true, false, cond, List, [], ◌∷◌, ◌++◌, ◌+◌, length, take, drop, refl}
use Rattle.std.proofs.Common.{sym, ap, ◌∙◌, arith}
use Rattle.std.specs.Prelude.{◌==◌}
use Rattle.std.proofs.lemmas.List.{append-nil, take_all, take-append-drop}
use Rattle.std.proofs.lemmas.List.Concat.{flat_map-append}
use Rattle.std.proofs.lemmas.List.Elements.{filter-append}
use Rattle.std.proofs.lemmas.List.Recursion.{is_count_by}
use Rattle.space.specs.Births.{BornTuple, SpaceState, page_count}
use Rattle.space.specs.Pages.{entry_text, entries_text, on_page, tuple_page_text, text_of_oldest}
use Rattle.space.specs.declared.version.Version.{Version}

pub on_page-append : (page : ℕ) (es fs : List BornTuple) → on_page page (es ++ fs) ≡ on_page page es ++ on_page page fs
unfolding on_page
on_page-append page es fs = filter-append (λ e. e.0 % 256 == page) es fs

pub entries_text-append : (v : Version) (es fs : List BornTuple) → entries_text v (es ++ fs) ≡ entries_text v es ++ entries_text v fs
entries_text-append v es fs = flat_map-append (entry_text v) es fs

pub entries_text_push : (v : Version) (es : List BornTuple) (e : BornTuple) → entries_text v (es ++ e ∷ []) ≡ entries_text v es ++ entry_text v e
entries_text_push v es e = entries_text-append v es (e ∷ []) ∙ ap (λ bs. entries_text v es ++ bs) (append-nil (entry_text v e))

pub length-on_page : (page : ℕ) (es : List BornTuple) → length (on_page page es) ≡ page_count es page
unfolding on_page
length-on_page page es = is_count_by (λ (xs : List BornTuple). length (on_page page xs)) (λ (e : BornTuple). e.0 % 256 == page) refl (λ x xs. one x xs (x.0 % 256 == page)) es
  where
    one : (x : BornTuple) (xs : List BornTuple) (b : Bool) → length (cond b (x ∷ on_page page xs) (on_page page xs)) ≡ cond b (1 + length (on_page page xs)) (length (on_page page xs))
    one x xs true = omega arith
    one x xs false = refl

-- The text of all tuples of a page is its text.
pub oldest_are_all : (s : SpaceState) (page count : ℕ) → count ≡ page_count s.entries page → text_of_oldest s page count ≡ tuple_page_text s page
oldest_are_all s page count e =
    ap (entries_text s.version) (take_all count (on_page page s.entries) (omega (arith, e, length-on_page page s.entries)))

-- The text of the others stands behind that of the oldest.
pub others_behind : (s : SpaceState) (page count : ℕ) → text_of_oldest s page count ++ entries_text s.version (drop count (on_page page s.entries)) ≡ tuple_page_text s page
others_behind s page count =
    let xs : List BornTuple = on_page page s.entries in
    sym (entries_text-append s.version (take count xs) (drop count xs)) ∙ ap (entries_text s.version) (take-append-drop count xs)

-- States and the lengths of their pages.
use Rattle.std.proofs.Common.{◌≡◌, ◌≢◌, ℕ, ◌+◌, ◌-◌, ◌*◌, ◌%◌, ◌≤◌, ◌<◌, ◌⊎◌, inl, inr, Bool, true, false, List, [], ◌∷◌, ◌++◌, length, get_or, refl, sym, ap, ◌∙◌, subst, arith, length-append}
use Rattle.std.specs.Prelude.{nat_lt, ◌==◌, All, Some, None, Option}
use Rattle.std.specs.Int.{w16, w64, to_be_bytes}
use Rattle.std.proofs.lemmas.Bool.{cases_eq, ltb-true, ltb-false}
use Rattle.std.proofs.lemmas.List.Elements.{All-head, All-tail, All-filter}
use Rattle.std.proofs.lemmas.List.Sums.{length-filter}
use Rattle.tuple_tree.specs.Values.{TupleTree, IsTuple}
use Rattle.tuple_tree.specs.Spelling.{tuple_spelling}
use Rattle.tuple_codec.specs.Spelling.{outcome_spelling}
use Rattle.tuple_codec.proofs.Lengths.{tuple_short, outcome_short}
use Rattle.space.specs.Births.{BornTuple, SpaceState, IsState as IsSpace}
use Rattle.space.specs.Pages.{stored_text, entry_text, entries_text, on_page, tuple_page_text as tuple_page}
use Rattle.space.specs.declared.version.Version.{Version}
use Rattle.space.specs.declared.version.Version.TheVariants as versions
use Rattle.reply_cache.specs.Replies.{Kept, IsReply}
use Rattle.reply_cache.specs.Pages.{reply_text}
use Rattle.protocol.specs.Replica.State.{kept_of, page_text}
use Rattle.protocol.proofs.Words.Paging.{header_at, pages_determine as protocol-determine, tuple_page_at}
use Rattle.execution.specs.Laws.{PagesDetermine, PagesAreShort}
use Rattle.execution.proofs.Renewing.{page_there, replies_at, rest_at}

-- ---- equal pages

pub pages_determine : PagesDetermine
pages_determine s t h k e = protocol-determine s t h k (λ i l. sym (page_there s i l) ∙ ap (λ ps. get_or ps i []) e ∙ page_there t i l)

-- ---- tuples

stored_short : (v : Version) (t : TupleTree) → IsTuple t → length (stored_text v t) ≤ 1026
stored_short versions.One t h = let l = tuple_short t h in omega arith
stored_short versions.Two t h = let l = tuple_short t h in let n = length-append (to_be_bytes w16 (length (tuple_spelling t))) (tuple_spelling t) in omega arith

entry_short : (v : Version) (e : BornTuple) → IsTuple e.1 → length (entry_text v e) ≤ 1034
entry_short v e h = let l = stored_short v e.1 h in let n = length-append (to_be_bytes w64 e.0) (stored_text v e.1) in omega arith

entries_short : (v : Version) (es : List BornTuple) → All (λ e. IsTuple e.1) es → length (entries_text v es) ≤ 1034 * length es
entries_short v [] h = omega arith
entries_short v (e ∷ es) h =
    let first = entry_short v e (All-head (λ (x : BornTuple). IsTuple x.1) e es h) in
    let rest = entries_short v es (All-tail (λ (x : BornTuple). IsTuple x.1) e es h) in
    let n = length-append (entry_text v e) (entries_text v es) in
    omega arith

tuples_short : (s : SpaceState) (page : ℕ) → IsSpace s → length (tuple_page s page) ≤ 66176
unfolding on_page
tuples_short s page h =
    let few = h.pages page in
    let n = length-filter (λ (e : BornTuple). e.0 % 256 == page) s.entries in
    let l = entries_short s.version (on_page page s.entries) (All-filter (λ (e : BornTuple). e.0 % 256 == page) (λ (e : BornTuple). IsTuple e.1) s.entries h.tuples) in
    omega arith

-- ---- replies

reply_short : (o : Option Kept) → IsReply o → length (reply_text o) ≤ 66176
reply_short None h = omega arith
reply_short (Some k) h =
    let l = outcome_short k.outcome h.answer in
    let n = length-append (to_be_bytes w64 k.timestamp) (to_be_bytes w64 k.number ++ outcome_spelling k.outcome) in
    let m = length-append (to_be_bytes w64 k.number) (outcome_spelling k.outcome) in
    omega arith

-- ---- pages

none_short : length {A = ℕ} [] ≤ 66176
none_short = omega arith

pub pages_are_short : PagesAreShort
pages_are_short st page h = go (nat_lt page 256) refl (nat_lt page 512) refl (cases_eq page 512)
  where
    reply : (i : ℕ) → i < 256 → length (page_text st (256 + i)) ≤ 66176
    reply i l = subst (λ (text : List ℕ). length text ≤ 66176) (sym (replies_at st i l)) (reply_short (kept_of st i) (h.replies.each i))

    header : length (page_text st 512) ≤ 66176
    header = let n = ap length (header_at st) in omega arith

    go : (a : Bool) → nat_lt page 256 ≡ a → (b : Bool) → nat_lt page 512 ≡ b → (page ≡ 512) ⊎ (page ≢ 512) → length (page_text st page) ≤ 66176
    go true x b y e = subst (λ (text : List ℕ). length text ≤ 66176) (sym (tuple_page_at st page (ltb-true page 256 x))) (tuples_short st.space page h.space.state)
    go false x true y e =
        let m = ltb-false page 256 x in
        let n = ltb-true page 512 y in
        let f : 256 + (page - 256) ≡ page = omega arith in
        subst (λ (i : ℕ). length (page_text st i) ≤ 66176) f (reply (page - 256) (omega arith))
    go false x false y (inl e) = subst (λ (i : ℕ). length (page_text st i) ≤ 66176) (sym e) header
    go false x false y (inr d) =
        let m = ltb-false page 512 y in
        let l : 512 < page = omega arith in
        subst (λ (text : List ℕ). length text ≤ 66176) (sym (rest_at st page l)) none_short

-- A state and its pages.
use Rattle.std.proofs.Common.{◌≡◌, ◌≢◌, ℕ, ◌+◌, ◌-◌, ◌≤◌, ◌<◌, ◌⊎◌, inl, inr, Bool, true, false, Bor, List, [], length, get_or, refl, sym, ap, ◌∙◌, subst, arith}
use Rattle.std.specs.Prelude.{nat_lt}
use Rattle.std.proofs.Math.ListN.{set}
use Rattle.std.proofs.lemmas.Bool.{cases_eq, ltb-true, ltb-false}
use Rattle.std.proofs.lemmas.List.{get_or-set_same, get_or-set_other, length-set, map-set}
use Rattle.space.specs.Births.{SpaceState}
use Rattle.space.specs.Pages.{ArePagesOfTuples as AreSpacePages, IsStateAt, header_text, texts_of}
use Rattle.reply_cache.specs.Replies.{Replies}
use Rattle.reply_cache.specs.Pages.{ArePagesOfReplies as AreReplyPages}
use Rattle.protocol.specs.Replica.State.{State, IsReplicatedState, page_text, all_pages, pages_of}
use Rattle.protocol.proofs.Words.Paging.{header_at, tuple_page_at}
use Rattle.space.specs.Watching.{WatchedState, is_touched}
use Rattle.execution.specs.Running.{state_with}
use Rattle.execution.specs.Touching.{RepliesState}
use Rattle.execution.specs.Keeping.{IsExecutedState}
use Rattle.execution.specs.Installing.{HasPagesAt, AreTexts, NoneBehind, NoneFalls, NoneReplaces}
use Rattle.execution.proofs.Renewing.{has_all, all_of, page_there, replies_at, rest_at}
use Rattle.execution.proofs.Measuring.{pages_determine}

-- ---- collected texts

-- the texts below an index are those of the pages from the first on
pub record AreFilled (pages : List (List ℕ)) (first : ℕ) (texts : List (List ℕ)) (end : ℕ) : Type 0 where
  pub all : length texts ≡ 256
  pub each : (i : ℕ) → i < end → get_or texts i [] ≡ get_or pages (first + i) []

pub filled_more : (pages : List (List ℕ)) (first : ℕ) (texts : List (Bor (List ℕ))) (i : ℕ) (x : Bor (List ℕ))
    → i < 256 → x.now ≡ get_or pages (first + i) [] → AreFilled pages first (texts_of texts) i
    → AreFilled pages first (texts_of (set texts i x)) (i + 1)
filled_more pages first texts i x l e h = record {
  all = ap length same ∙ length-set (texts_of texts) i x.now ∙ h.all;
  each = λ j m. ap (λ ts. get_or ts j []) same ∙ go j m (cases_eq j i);
}
  where
    same : texts_of (set texts i x) ≡ set (texts_of texts) i x.now
    same = map-set (λ (p : Bor (List ℕ)). p.now) texts i x

    go : (j : ℕ) → j < i + 1 → (j ≡ i) ⊎ (j ≢ i) → get_or (set (texts_of texts) i x.now) j [] ≡ get_or pages (first + j) []
    go j m (inl f) = subst (λ (k : ℕ). get_or (set (texts_of texts) i x.now) k [] ≡ get_or pages (first + k) []) (sym f) (get_or-set_same (texts_of texts) i x.now [] (let a = h.all in omega arith) ∙ e)
    go j m (inr d) = get_or-set_other (texts_of texts) i j x.now [] d ∙ h.each j (omega arith)

-- ---- the pages of a state

page_is : (number : ℕ) (pages : List (List ℕ)) (st : State) → HasPagesAt number pages st → (i : ℕ) → i < 1024 → get_or pages i [] ≡ page_text st i
page_is number pages st h i l = ap (λ ps. get_or ps i []) (sym h.pages) ∙ page_there st i l

pub none_behind : (number : ℕ) (pages : List (List ℕ)) (st : State) → HasPagesAt number pages st → NoneBehind pages
none_behind number pages st h page l m = page_is number pages st h page m ∙ rest_at st page l

text_at : (pages texts : List (List ℕ)) (i : ℕ) → i < 256 → AreTexts pages 0 texts → get_or texts i [] ≡ get_or pages i []
text_at pages texts i l are = are.each i l ∙ ap (λ (j : ℕ). get_or pages j []) (let e : 0 + i ≡ i = omega arith in e)

pub space_pages : (number : ℕ) (pages texts : List (List ℕ)) (header : List ℕ) (st : State) → AreTexts pages 0 texts → header ≡ get_or pages 512 []
    → HasPagesAt number pages st → AreSpacePages texts header st.space st.number
space_pages number pages texts header st are e h = record {
  state = h.state.space;
  heading = e ∙ page_is number pages st h 512 (omega arith) ∙ header_at st;
  all = are.all;
  each = λ i l. text_at pages texts i l are ∙ page_is number pages st h i (omega arith) ∙ tuple_page_at st i l;
}

pub reply_pages : (number : ℕ) (pages texts : List (List ℕ)) (st : State) → AreTexts pages 256 texts → HasPagesAt number pages st
    → AreReplyPages texts st.replies
reply_pages number pages texts st are h = record {
  replies = h.state.replies;
  all = are.all;
  each = λ i l. are.each i l ∙ page_is number pages st h (256 + i) (omega arith) ∙ replies_at st i l;
}

-- ---- which pages are a state's

pub has_pages : (number n : ℕ) (pages texts more : List (List ℕ)) (header : List ℕ) (s : SpaceState) (r : Replies) → length pages ≡ 1024 → NoneBehind pages
    → AreTexts pages 0 texts → header ≡ get_or pages 512 [] → AreSpacePages texts header s n → n ≡ number → AreTexts pages 256 more → AreReplyPages more r
    → HasPagesAt number pages (state_with number s r)
unfolding all_pages
has_pages number n pages texts more header s r long none are at space e ares replies = record {
  state = record { space = subst (λ (m : ℕ). IsStateAt s m) e space.state; replies = replies.replies };
  number = refl;
  pages = sym (all_of (page_text st) 1024 0 pages long (λ i l. each i l ∙ ap (page_text st) (let z : i ≡ 0 + i = omega arith in z)));
}
  where
    st : State
    st = state_with number s r

    low : (i : ℕ) → i < 256 → get_or pages i [] ≡ page_text st i
    low i l = sym (text_at pages texts i l are) ∙ space.each i l ∙ sym (tuple_page_at st i l)

    middle : (i : ℕ) → i < 256 → get_or pages (256 + i) [] ≡ page_text st (256 + i)
    middle i l = sym (ares.each i l) ∙ replies.each i l ∙ sym (replies_at st i l)

    head : get_or pages 512 [] ≡ page_text st 512
    head = sym at ∙ space.heading ∙ ap (header_text s) e ∙ sym (header_at st)

    high : (i : ℕ) → 512 ≤ i → i < 1024 → (i ≡ 512) ⊎ (i ≢ 512) → get_or pages i [] ≡ page_text st i
    high i l m (inl f) = subst (λ (j : ℕ). get_or pages j [] ≡ page_text st j) (sym f) head
    high i l m (inr d) = let k : 512 < i = omega arith in none i k m ∙ sym (rest_at st i k)

    each : (i : ℕ) → i < 1024 → get_or pages i [] ≡ page_text st i
    each i l = go (nat_lt i 256) refl (nat_lt i 512) refl
      where
        go : (a : Bool) → nat_lt i 256 ≡ a → (b : Bool) → nat_lt i 512 ≡ b → get_or pages i [] ≡ page_text st i
        go true x b y = low i (ltb-true i 256 x)
        go false x true y =
            let m = ltb-false i 256 x in
            let n = ltb-true i 512 y in
            let f : 256 + (i - 256) ≡ i = omega arith in
            subst (λ (j : ℕ). get_or pages j [] ≡ page_text st j) f (middle (i - 256) (omega arith))
        go false x false y = high i (ltb-false i 512 y) l (cases_eq i 512)

-- ---- the one state with given pages

pub none_replaces : (old st : State) (number : ℕ) (pages : List (List ℕ)) → HasPagesAt number pages st → (NoneFalls old st → ⊥) → NoneReplaces old number pages
none_replaces old st number pages h falls other has none = falls (subst (NoneFalls old) (pages_determine other st has.state h.state (has.pages ∙ sym h.pages)) none)

-- ---- the invariant of a state that was read

pub keeps_read : (number clients : ℕ) (pages : List (List ℕ)) (w : WatchedState) (r : RepliesState) (s : SpaceState) (q : Replies)
    → clients ≤ 256 → w.state ≡ s → r.replies ≡ q → HasPagesAt number pages (state_with number s q) → ((page : ℕ) → page < 256 → is_touched w page ≡ false)
    → IsExecutedState number clients pages w r
keeps_read number clients pages w r s q few e f h untouched =
    let same : state_with number s q ≡ state_with number w.state r.replies = rw (e, f) refl in
    record {
      state = subst IsReplicatedState same h.state;
      few = few;
      pages = has_all number w r pages (sym h.pages ∙ ap pages_of same) untouched;
    }

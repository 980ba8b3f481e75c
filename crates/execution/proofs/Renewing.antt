-- The renewal of pages.
use Rattle.std.proofs.Common.{◌≡◌, ◌≢◌, ℕ, zero, suc, ◌+◌, ◌-◌, ◌≤◌, ◌<◌, ◌⊎◌, inl, inr, Bool, true, false, List, [], ◌∷◌, ◌++◌, length, map, get_or, refl, sym, ap, ◌∙◌, subst, arith, ◌==◌, eqb-true}
use Rattle.std.specs.Prelude.{nat_lt}
use Rattle.std.specs.List.{All, range_with_len}
use Rattle.std.proofs.lemmas.Bool.{cases_eq, lt-ltb, le-ltb, ltb-true, ltb-false}
use Rattle.std.proofs.lemmas.List.{get_or-replicate, get_or_past, length-replicate}
use Rattle.std.proofs.lemmas.List.Elements.{All-head, All-tail, All-push}
use Rattle.space.specs.Watching.{WatchedState, is_changed, is_touched as is_space_touched}
use Rattle.space.proofs.Touching.{written_whole}
use Rattle.reply_cache.specs.Pages.{reply_page_text as reply_page, reply_text}
use Rattle.partition_tree.specs.Changes.{pages_with}
use Rattle.partition_tree.specs.Digests.{empty_pages}
use Rattle.partition_tree.specs.declared.page.Page.{Page}
use Rattle.partition_tree.proofs.Changing.{length-pages_with, pages_with-each}
use Rattle.protocol.specs.Replica.State.{State, kept_of, page_text, all_pages, pages_of}
use Rattle.protocol.proofs.Words.Paging.{tuple_page_at}
use Rattle.execution.specs.Running.{state_with}
use Rattle.execution.specs.Touching.{RepliesState, HasPages, AreRenewed, PageIsAmong, is_touched, is_page_touched}

-- ---- members of pages

among_left : (i : ℕ) (ps : List Page) (p : Page) → PageIsAmong i ps → PageIsAmong i (ps ++ p ∷ [])
among_left i [] p h = absurd h
among_left i (q ∷ qs) p (inl e) = inl e
among_left i (q ∷ qs) p (inr h) = inr (among_left i qs p h)

among_last : (i : ℕ) (ps : List Page) (p : Page) → p.index ≡ i → PageIsAmong i (ps ++ p ∷ [])
among_last i [] p e = inl e
among_last i (q ∷ qs) p e = inr (among_last i qs p e)

not_among : (i : ℕ) (ps : List Page) → All (λ (p : Page). p.index ≢ i) ps → PageIsAmong i ps → ⊥
not_among i [] apart h = h
not_among i (p ∷ ps) apart (inl e) = All-head (λ (p : Page). p.index ≢ i) p ps apart e
not_among i (p ∷ ps) apart (inr h) = not_among i ps (All-tail (λ (p : Page). p.index ≢ i) p ps apart) h

-- ---- pages written one after another

below_or_at : (j i : ℕ) → j < i + 1 → (j < i) ⊎ (i ≡ j)
below_or_at zero zero k = inr refl
below_or_at zero (suc i) k = inl (omega arith)
below_or_at (suc j) zero k = absurd (omega arith)
below_or_at (suc j) (suc i) k = up (below_or_at j i (omega arith))
  where
    up : (j < i) ⊎ (i ≡ j) → (suc j < suc i) ⊎ (suc i ≡ suc j)
    up (inl l) = inl (omega arith)
    up (inr e) = inr (ap suc e)

pub renewed_page : (st : State) (touched : ℕ → Bool) (ps : List Page) (p : Page) → p.text.items ≡ page_text st p.index
    → AreRenewed st touched ps p.index → AreRenewed st touched (ps ++ p ∷ []) (p.index + 1)
renewed_page st touched ps p e h = record {
  texts = All-push (λ (p : Page). p.text.items ≡ page_text st p.index) ps p h.texts e;
  among = λ i l t. go i t (below_or_at i p.index l);
}
  where
    go : (i : ℕ) → touched i ≡ true → (i < p.index) ⊎ (p.index ≡ i) → PageIsAmong i (ps ++ p ∷ [])
    go i t (inl m) = among_left i ps p (h.among i m t)
    go i t (inr m) = among_last i ps p m

-- A page that isn't touched needs no text.
pub passed_page : (st : State) (touched : ℕ → Bool) (ps : List Page) (index : ℕ) → touched index ≡ false → AreRenewed st touched ps index → AreRenewed st touched ps (index + 1)
passed_page st touched ps index off h = record { texts = h.texts; among = λ i l t. go i t (below_or_at i index l) }
  where
    go : (i : ℕ) → touched i ≡ true → (i < index) ⊎ (index ≡ i) → PageIsAmong i ps
    go i t (inl m) = h.among i m t
    go i t (inr e) = absurd (let bad : true ≡ false = sym t ∙ ap touched (sym e) ∙ off in cc)

-- ---- the pages of a state

pub all_of : (f : ℕ → List ℕ) (n k : ℕ) (xs : List (List ℕ)) → length xs ≡ n → ((i : ℕ) → i < n → get_or xs i [] ≡ f (k + i)) → xs ≡ map f (range_with_len k n)
all_of f zero k [] l h = refl
all_of f zero k (x ∷ xs) l h = absurd (omega arith)
all_of f (suc n) k [] l h = absurd (omega arith)
all_of f (suc n) k (x ∷ xs) l h =
    let first : x ≡ f k = h 0 (omega arith) ∙ ap f (let e : k + 0 ≡ k = omega arith in e) in
    let rest : xs ≡ map f (range_with_len (k + 1) n) = all_of f n (k + 1) xs (omega arith) (λ i m. h (suc i) (omega arith) ∙ ap f (let e : k + suc i ≡ k + 1 + i = omega arith in e)) in
    ap (λ y. y ∷ xs) first ∙ ap (λ ys. f k ∷ ys) rest

each_of : (f : ℕ → List ℕ) (n k i : ℕ) → i < n → get_or (map f (range_with_len k n)) i [] ≡ f (k + i)
each_of f zero k i l = absurd (omega arith)
each_of f (suc n) k zero l = ap f (let e : k ≡ k + 0 = omega arith in e)
each_of f (suc n) k (suc i) l = each_of f n (k + 1) i (omega arith) ∙ ap f (let e : k + 1 + i ≡ k + suc i = omega arith in e)

long_of : (f : ℕ → List ℕ) (n k : ℕ) → length (map f (range_with_len k n)) ≡ n
long_of f zero k = refl
long_of f (suc n) k = ap suc (long_of f n (k + 1))

pub page_there : (st : State) (i : ℕ) → i < 1024 → get_or (pages_of st) i [] ≡ page_text st i
unfolding all_pages
page_there st i l = each_of (page_text st) 1024 0 i l ∙ ap (page_text st) (let e : 0 + i ≡ i = omega arith in e)

pub pages_long : (st : State) → length (pages_of st) ≡ 1024
unfolding all_pages
pages_long st = long_of (page_text st) 1024 0

pub replies_at : (st : State) (i : ℕ) → i < 256 → page_text st (256 + i) ≡ reply_page st.replies i
unfolding page_text
replies_at st i l =
    let a : nat_lt (256 + i) 256 ≡ false = le-ltb (256 + i) 256 (omega arith) in
    let b : nat_lt (256 + i) 512 ≡ true = lt-ltb (256 + i) 512 (omega arith) in
    let e : 256 + i - 256 ≡ i = omega arith in
    rw (a, b) (ap (λ (j : ℕ). reply_text (kept_of st j)) e)

pub rest_at : (st : State) (i : ℕ) → 512 < i → page_text st i ≡ []
unfolding page_text
rest_at st i l =
    let a : nat_lt i 256 ≡ false = le-ltb i 256 (omega arith) in
    let b : nat_lt i 512 ≡ false = le-ltb i 512 (omega arith) in
    rw (a, b, apart (i == 512) refl l) refl
  where
    apart : (b : Bool) → (i == 512) ≡ b → 512 < i → (i == 512) ≡ false
    apart true e l = let z : i ≡ 512 = eqb-true i 512 e in absurd (omega arith)
    apart false e l = e

-- ---- a tree that has the pages

pub has_all : (number : ℕ) (w : WatchedState) (r : RepliesState) (tree : List (List ℕ))
    → tree ≡ pages_of (state_with number w.state r.replies) → ((page : ℕ) → page < 256 → is_space_touched w page ≡ false) → HasPages tree w r
has_all number w r tree e untouched = record {
  long = ap length e ∙ pages_long st;
  tuples = λ i l h. let m : i < 1024 = omega arith in at i m ∙ tuple_page_at st i l ∙ sym (written_whole w i (untouched i l)).1;
  replies = λ i l h. let m : 256 + i < 1024 = omega arith in at (256 + i) m ∙ replies_at st i l;
  rest = λ i l. go i l (nat_lt i 1024) refl;
}
  where
    st : State
    st = state_with number w.state r.replies

    at : (i : ℕ) → i < 1024 → get_or tree i [] ≡ page_text st i
    at i l = ap (λ xs. get_or xs i []) e ∙ page_there st i l

    go : (i : ℕ) → 512 < i → (b : Bool) → nat_lt i 1024 ≡ b → get_or tree i [] ≡ []
    go i l true m = at i (ltb-true i 1024 m) ∙ rest_at st i l
    go i l false m = let k = ltb-false i 1024 m in let long : length tree ≡ 1024 = ap length e ∙ pages_long st in get_or_past tree i [] (omega arith)

no_text : List ℕ
no_text = []

empty_long : length empty_pages ≡ 1024
unfolding empty_pages no_text
empty_long = length-replicate 1024 no_text

pub has_none : (w : WatchedState) (r : RepliesState) (tree : List (List ℕ)) → tree ≡ empty_pages
    → ((page : ℕ) → page < 256 → is_changed w page ≡ true) → ((client : ℕ) → client < 256 → is_touched r client ≡ true)
    → HasPages tree w r
unfolding empty_pages
has_none w r tree e spaces replies = record {
  long = ap length e ∙ empty_long;
  tuples = λ i l h. absurd (let bad : true ≡ false = sym (spaces i l) ∙ h in cc);
  replies = λ i l h. absurd (let bad : true ≡ false = sym (replies i l) ∙ h in cc);
  rest = λ i l. go i (nat_lt i 1024) refl;
}
  where
    go : (i : ℕ) → (b : Bool) → nat_lt i 1024 ≡ b → get_or tree i [] ≡ []
    go i true m = ap (λ xs. get_or xs i []) e ∙ get_or-replicate 1024 i [] [] (ltb-true i 1024 m)
    go i false m = let k = ltb-false i 1024 m in let long : length tree ≡ 1024 = ap length e ∙ empty_long in get_or_past tree i [] (omega arith)

-- ---- all touched pages are set

tuples_touched : (w : WatchedState) (r : RepliesState) (i : ℕ) → i < 256 → is_page_touched w r i ≡ is_space_touched w i
tuples_touched w r i l = rw (lt-ltb i 256 l) refl

replies_touched : (w : WatchedState) (r : RepliesState) (i : ℕ) → i < 256 → is_page_touched w r (256 + i) ≡ is_touched r i
replies_touched w r i l =
    let a : nat_lt (256 + i) 256 ≡ false = le-ltb (256 + i) 256 (omega arith) in
    let b : nat_lt (256 + i) 512 ≡ true = lt-ltb (256 + i) 512 (omega arith) in
    let e : 256 + i - 256 ≡ i = omega arith in
    rw (a, b) (ap (is_touched r) e)

pub all_set : (number : ℕ) (w : WatchedState) (r : RepliesState) (tree : List (List ℕ)) (ps : List Page) → HasPages tree w r
    → AreRenewed (state_with number w.state r.replies) (is_page_touched w r) ps 513 → pages_with ps tree ≡ pages_of (state_with number w.state r.replies)
unfolding all_pages
all_set number w r tree ps has new =
    all_of (page_text st) 1024 0 (pages_with ps tree) (length-pages_with ps tree ∙ has.long)
    (λ i l.
    let long = has.long in
    let m : i < length tree = omega arith in
    pages_with-each (λ index text. text ≡ page_text st index) ps tree new.texts (λ j k apart. other j apart) i m
    ∙ ap (page_text st) (let e : i ≡ 0 + i = omega arith in e))
  where
    st : State
    st = state_with number w.state r.replies

    none : (i : ℕ) → All (λ (p : Page). p.index ≢ i) ps → i < 513 → is_page_touched w r i ≡ false
    none i apart l = go (is_page_touched w r i) refl
      where
        go : (b : Bool) → is_page_touched w r i ≡ b → is_page_touched w r i ≡ false
        go true e = absurd (not_among i ps apart (new.among i l e))
        go false e = e

    tuples : (i : ℕ) → All (λ (p : Page). p.index ≢ i) ps → i < 256 → get_or tree i [] ≡ page_text st i
    tuples i apart l =
        let whole = written_whole w i (sym (tuples_touched w r i l) ∙ none i apart (omega arith)) in
        has.tuples i l whole.0 ∙ whole.1 ∙ sym (tuple_page_at st i l)

    replies : (i : ℕ) → All (λ (p : Page). p.index ≢ 256 + i) ps → i < 256 → get_or tree (256 + i) [] ≡ page_text st (256 + i)
    replies i apart l = has.replies i l (sym (replies_touched w r i l) ∙ none (256 + i) apart (omega arith)) ∙ sym (replies_at st i l)

    header : All (λ (p : Page). p.index ≢ 512) ps → get_or tree 512 [] ≡ page_text st 512
    header apart = absurd (let bad : true ≡ false = none 512 apart (omega arith) in cc)

    above : (i : ℕ) → All (λ (p : Page). p.index ≢ i) ps → 512 ≤ i → get_or tree i [] ≡ page_text st i
    above i apart l = go (cases_eq i 512)
      where
        go : (i ≡ 512) ⊎ (i ≢ 512) → get_or tree i [] ≡ page_text st i
        go (inl e) = subst (λ (j : ℕ). All (λ (p : Page). p.index ≢ j) ps → get_or tree j [] ≡ page_text st j) (sym e) header apart
        go (inr d) = has.rest i (more i l d) ∙ sym (rest_at st i (more i l d))
          where
            more : (i : ℕ) → 512 ≤ i → i ≢ 512 → 512 < i
            more i l d = omega arith

    middle : (i : ℕ) → All (λ (p : Page). p.index ≢ i) ps → 256 ≤ i → i < 512 → get_or tree i [] ≡ page_text st i
    middle i apart l m =
        let e : 256 + (i - 256) ≡ i = omega arith in
        subst (λ (j : ℕ). All (λ (p : Page). p.index ≢ j) ps → get_or tree j [] ≡ page_text st j) e (λ h. replies (i - 256) h (omega arith)) apart

    other : (i : ℕ) → All (λ (p : Page). p.index ≢ i) ps → get_or tree i [] ≡ page_text st i
    other i apart = go (nat_lt i 256) refl (nat_lt i 512) refl
      where
        go : (a : Bool) → nat_lt i 256 ≡ a → (b : Bool) → nat_lt i 512 ≡ b → get_or tree i [] ≡ page_text st i
        go true x b y = tuples i apart (ltb-true i 256 x)
        go false x true y = middle i apart (ltb-false i 256 x) (ltb-true i 512 y)
        go false x false y = above i apart (ltb-false i 512 y)

-- The waiting requests, after some are removed or get numbers.
use Rattle.std.proofs.Common.{◌≡◌, ℕ, zero, suc, ◌+◌, ◌-◌, ◌≤◌, ◌<◌, Bool, true, false, cond, not, ◌||◌, List, [], ◌∷◌, ◌++◌, length, map, filter, take, drop, set, get_or, arith, refl, sym, ap, ◌∙◌}
use Rattle.std.specs.Prelude.{Vec}
use Rattle.std.specs.List.{list_any}
use Rattle.std.specs.declared.alloc.Global.{Global}
use Rattle.std.proofs.lemmas.List.{length-take, length-append, map-append, append_assoc, append-nil, take_more_set, take-append-le, take_all, drop_more, drop-set-lt}
use Rattle.std.proofs.lemmas.List.Elements.{filter_more}
use Rattle.wire_format.specs.Lists.{Each}
use Rattle.wire_format.specs.Spelling.{IsCarried, is_ordered_request}
use Rattle.wire_format.specs.Views.{texts_of}
use Rattle.desk.specs.declared.waiting.WaitingRequest.{WaitingRequest}
use Rattle.desk.specs.declared.waiting.AssignedCall.{AssignedCall}
use Rattle.desk.specs.Waiting.{WaitingData, HasRequestFrame, IsWaiting, keeping, texts, all_unnumbered, unnumbered, count_unnumbered, all_numbered, with_numbered, renumbered, with_view}

each_taken : (n : ℕ) (xs : List WaitingRequest) → Each HasRequestFrame xs → Each HasRequestFrame (take n xs)
each_taken zero xs h = tt
each_taken (suc n) [] h = tt
each_taken (suc n) (x ∷ xs) h = (h.0, each_taken n xs h.1)

each_kept : (p : WaitingRequest → Bool) (xs : List WaitingRequest) → Each HasRequestFrame xs → Each HasRequestFrame (filter p xs)
each_kept p [] h = h
each_kept p (x ∷ xs) h = go (p x) (each_kept p xs h.1)
  where
    go : (b : Bool) → Each HasRequestFrame (filter p xs) → Each HasRequestFrame (cond b (x ∷ filter p xs) (filter p xs))
    go true rest = (h.0, rest)
    go false rest = rest

pub kept_waits : (p : WaitingRequest → Bool) (w : WaitingData) → IsWaiting w → IsWaiting (keeping p w)
kept_waits p w h = record { each = each_kept p w.requests h.each }

-- ---- numbers

each_numbered : (n : ℕ) (xs : List WaitingRequest) → Each HasRequestFrame xs → Each HasRequestFrame (all_numbered n xs)
each_numbered n [] h = tt
each_numbered zero (x ∷ xs) h = h
each_numbered (suc n) (x ∷ xs) h = go x.numbered (each_numbered (suc n) xs h.1) (each_numbered n xs h.1)
  where
    go : (b : Bool) → Each HasRequestFrame (all_numbered (suc n) xs) → Each HasRequestFrame (all_numbered n xs)
        → Each HasRequestFrame (cond b (x ∷ all_numbered (suc n) xs) (record x { numbered = true } ∷ all_numbered n xs))
    go true rest fewer = (h.0, rest)
    go false rest fewer = (h.0, fewer)

pub numbered_waits : (n : ℕ) (w : WaitingData) → IsWaiting w → IsWaiting (with_numbered n w)
numbered_waits n w h = record { each = each_numbered n w.requests h.each }

each_renumbered : (assigned : List AssignedCall) (xs : List WaitingRequest) → Each HasRequestFrame xs → Each HasRequestFrame (map (renumbered assigned) xs)
each_renumbered assigned [] h = tt
each_renumbered assigned (x ∷ xs) h = (h.0, each_renumbered assigned xs h.1)

pub view_waits : (assigned : List AssignedCall) (w : WaitingData) → IsWaiting w → IsWaiting (with_view assigned w)
view_waits assigned w h = record { each = each_renumbered assigned w.requests h.each }

-- if no more are assigned, all stay
none_numbered : (xs : List WaitingRequest) → all_numbered 0 xs ≡ xs
none_numbered [] = refl
none_numbered (x ∷ xs) = refl

numbered_head : (n : ℕ) (r : WaitingRequest) (xs : List WaitingRequest) → r.numbered ≡ true → all_numbered n (r ∷ xs) ≡ r ∷ all_numbered n xs
numbered_head zero r xs e = ap (λ ys. r ∷ ys) (sym (none_numbered xs))
numbered_head (suc n) r xs e = ap (λ b. cond b (r ∷ all_numbered (suc n) xs) (record r { numbered = true } ∷ all_numbered n xs)) e

unnumbered_head : (n : ℕ) (r : WaitingRequest) (xs : List WaitingRequest) → r.numbered ≡ false → 0 < n → all_numbered n (r ∷ xs) ≡ record r { numbered = true } ∷ all_numbered (n - 1) xs
unnumbered_head zero r xs e some = absurd (omega (arith, some))
unnumbered_head (suc n) r xs e some =
    ap (λ b. cond b (r ∷ all_numbered (suc n) xs) (record r { numbered = true } ∷ all_numbered n xs)) e
    ∙ ap (λ m. record r { numbered = true } ∷ all_numbered m xs) (back n)
  where
    back : (m : ℕ) → m ≡ suc m - 1
    back m = omega arith

-- one of the requests is written: it keeps its flag if it has a number or no more are assigned, and else gets one
module _ (xs : List WaitingRequest) (i : ℕ) (d : WaitingRequest) (within : i < length xs) (n : ℕ) where
  abbrev this : WaitingRequest
  this = get_or xs i d

  abbrev Goes : List WaitingRequest → ℕ → Type 0
  Goes ys m = take (i + 1) ys ++ all_numbered m (drop (i + 1) ys) ≡ take i xs ++ all_numbered n (drop i xs)

  goes : (y : WaitingRequest) (m : ℕ) → all_numbered n (this ∷ drop (i + 1) xs) ≡ y ∷ all_numbered m (drop (i + 1) xs) → Goes (set xs i y) m
  goes y m head =
      ap (λ ys. ys ++ all_numbered m (drop (i + 1) (set xs i y))) (take_more_set xs i y within)
      ∙ append_assoc (take i xs) (y ∷ []) (all_numbered m (drop (i + 1) (set xs i y)))
      ∙ ap (λ ys. take i xs ++ y ∷ all_numbered m ys) (drop-set-lt (i + 1) xs i y (omega arith))
      ∙ ap (λ ys. take i xs ++ ys) (sym (ap (all_numbered n) (drop_more xs i d within) ∙ head))

  pub flag_stays : (ys : List WaitingRequest) (m : ℕ) → this.numbered ≡ true → ys ≡ set xs i this → m ≡ n → Goes ys m
  flag_stays ys m e written left = rw (written, left) (goes this n (numbered_head n this (drop (i + 1) xs) e))

  pub none_left : (ys : List WaitingRequest) (m : ℕ) → n ≤ 0 → ys ≡ set xs i this → m ≡ n → Goes ys m
  none_left ys m none written left = rw (written, left) (goes this n (all_stay n (omega (arith, none))))
    where
      all_stay : (k : ℕ) → k ≡ 0 → all_numbered k (this ∷ drop (i + 1) xs) ≡ this ∷ all_numbered k (drop (i + 1) xs)
      all_stay zero e = ap (λ ys. this ∷ ys) (sym (none_numbered (drop (i + 1) xs)))
      all_stay (suc k) e = absurd (omega (arith, e))

  pub flag_changes : (ys : List WaitingRequest) (m : ℕ) → this.numbered ≡ false → 0 < n → ys ≡ set xs i (record this { numbered = true }) → m ≡ n - 1 → Goes ys m
  flag_changes ys m e some written left = rw (written, left) (goes (record this { numbered = true }) (n - 1) (unnumbered_head n this (drop (i + 1) xs) e some))

-- ---- those without a number

pub each_unnumbered : (w : WaitingData) → IsWaiting w → Each HasRequestFrame (unnumbered w)
each_unnumbered w h = each_taken 16 (all_unnumbered w.requests) (each_kept (λ r. not r.numbered) w.requests h.each)

pub few_unnumbered : (w : WaitingData) → length (unnumbered w) ≤ 16
few_unnumbered w = omega (arith, length-take 16 (all_unnumbered w.requests))

-- the frames are those of ordered requests
pub frames_carried : (rs : List WaitingRequest) → Each HasRequestFrame rs → Each (IsCarried is_ordered_request) (texts rs)
frames_carried [] h = tt
frames_carried (r ∷ rs) h = (h.0, frames_carried rs h.1)

-- as many frames as requests
pub as_many : (frames : List (Vec ℕ Global)) (rs : List WaitingRequest) → texts_of frames ≡ texts rs → length frames ≡ length rs
as_many [] [] same = refl
as_many [] (r ∷ rs) same = absurd cc
as_many (f ∷ fs) [] same = absurd cc
as_many (f ∷ fs) (r ∷ rs) same = ap suc (as_many fs rs (ap (drop 1) same))

-- a test finds one exactly if there is one
some_kept : (xs : List WaitingRequest) (b : Bool) → b ≡ list_any (λ r. not r.numbered) xs → b ≡ true → 1 ≤ length (all_unnumbered xs)
some_kept [] b is e = absurd (let bad : true ≡ false = sym e ∙ is in cc)
some_kept (x ∷ xs) b is e = go (not x.numbered) (sym is ∙ e) (λ h. some_kept xs true (sym h) refl)
  where
    go : (n : Bool) → (n || list_any (λ r. not r.numbered) xs) ≡ true → (list_any (λ r. not r.numbered) xs ≡ true → 1 ≤ length (all_unnumbered xs))
        → 1 ≤ length (cond n (x ∷ all_unnumbered xs) (all_unnumbered xs))
    go true h below = omega arith
    go false h below = below h

pub some_unnumbered : (w : WaitingData) (b : Bool) → b ≡ list_any (λ r. not r.numbered) w.requests → b ≡ true → 1 ≤ length (unnumbered w)
some_unnumbered w b is e =
    let some = some_kept w.requests b is e in
    let few = length-take 16 (all_unnumbered w.requests) in
    omega (arith, some, few)

none_kept : (xs : List WaitingRequest) → list_any (λ r. not r.numbered) xs ≡ false → length (all_unnumbered xs) ≡ 0
none_kept [] e = refl
none_kept (x ∷ xs) e = go (not x.numbered) e (none_kept xs)
  where
    go : (n : Bool) → (n || list_any (λ r. not r.numbered) xs) ≡ false → (list_any (λ r. not r.numbered) xs ≡ false → length (all_unnumbered xs) ≡ 0)
        → length (cond n (x ∷ all_unnumbered xs) (all_unnumbered xs)) ≡ 0
    go true h below = absurd cc
    go false h below = below h

pub none_unnumbered : (w : WaitingData) (b : Bool) → b ≡ list_any (λ r. not r.numbered) w.requests → b ≡ false → count_unnumbered w ≡ 0
none_unnumbered w b is e = none_kept w.requests (sym is ∙ e)

-- ---- copies of their frames

module _ (rs : List WaitingRequest) (i : ℕ) (r : WaitingRequest) (within : i < length rs) (at : get_or rs i r ≡ r) (frames : List (Vec ℕ Global))
    (so : texts_of frames ≡ texts (take 16 (all_unnumbered (take i rs)))) where
  abbrev before : List WaitingRequest
  before = all_unnumbered (take i rs)

  many : length frames ≡ length (take 16 before)
  many = as_many frames (take 16 before) so

  next_is : (b : Bool) → r.numbered ≡ b → all_unnumbered (take (i + 1) rs) ≡ before ++ cond (not b) (r ∷ []) []
  next_is b e =
      filter_more (λ x. not x.numbered) rs i r within
      ∙ ap (λ (x : WaitingRequest). before ++ cond (not x.numbered) (x ∷ []) []) at
      ∙ ap (λ (n : Bool). before ++ cond (not n) (r ∷ []) []) e

  -- one that has a number, or is one too many, is passed over
  pub passed_over : r.numbered ≡ true → texts_of frames ≡ texts (take 16 (all_unnumbered (take (i + 1) rs)))
  passed_over e = so ∙ ap (λ xs. texts (take 16 xs)) (sym (next_is true e ∙ append-nil before))

  pub too_many : r.numbered ≡ false → 16 ≤ length frames → texts_of frames ≡ texts (take 16 (all_unnumbered (take (i + 1) rs)))
  too_many e full =
      let all = many in
      let few = length-take 16 before in
      so ∙ ap texts (sym (ap (take 16) (next_is false e) ∙ take-append-le 16 before (r ∷ []) (omega (arith, full, all, few))))

  -- another is copied
  pub copied : (more : List (Vec ℕ Global)) (text : List ℕ) → r.numbered ≡ false → length frames < 16 → text ≡ r.frame.items → texts_of more ≡ texts_of frames ++ text ∷ []
      → texts_of more ≡ texts (take 16 (all_unnumbered (take (i + 1) rs)))
  copied more text e room is next =
      let all = many in
      let few = length-take 16 before in
      let with_it = length-append before (r ∷ []) in
      next
      ∙ ap (λ (xs : List (List ℕ)). xs ++ text ∷ []) (so ∙ ap texts (take_all 16 before (omega (arith, room, all, few))))
      ∙ ap (λ (t : List ℕ). texts before ++ t ∷ []) is
      ∙ sym (map-append (λ (x : WaitingRequest). x.frame.items) before (r ∷ []))
      ∙ ap texts (sym (ap (take 16) (next_is false e) ∙ take_all 16 (before ++ r ∷ []) (omega (arith, room, all, few, with_it))))

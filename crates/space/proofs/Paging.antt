-- Of 256 births in a row one has room on its page, where fewer than 16,384 tuples are stored.
use Rattle.std.proofs.Common.{◌≡◌, ℕ, zero, suc, ◌+◌, ◌*◌, ◌%◌, ◌≤◌, ◌<◌, Bool, true, false, cond, List, [], ◌∷◌, ◌++◌}
use Rattle.std.proofs.Common.{length, get_or, refl, arith, eqb-true}
use Rattle.std.specs.Prelude.{◌==◌, remove}
use Rattle.std.proofs.lemmas.Bool.{ltb-true, ltb-false}
use Rattle.std.proofs.lemmas.List.Sums.{sum_by-cons, sum_by_push, sum_by-remove}
use Rattle.space.specs.Births.{BornTuple, page_count, has_page_room, first_passing}

abbrev on_page : ℕ → BornTuple → ℕ
on_page page e = cond (e.0 % 256 == page) 1 0

page_count-cons : (e : BornTuple) (es : List BornTuple) (page : ℕ) → page_count (e ∷ es) page ≡ on_page page e + page_count es page
page_count-cons e es page = sum_by-cons (on_page page) e es

pub page_count_push : (es : List BornTuple) (e : BornTuple) (page : ℕ) → page_count (es ++ e ∷ []) page ≡ page_count es page + cond (e.0 % 256 == page) 1 0
page_count_push es e page = sum_by_push (on_page page) es e

pub page_count-remove : (es : List BornTuple) (i : ℕ) (d : BornTuple) (page : ℕ) → i < length es
    → page_count (remove es i) page + cond ((get_or es i d).0 % 256 == page) 1 0 ≡ page_count es page
page_count-remove es i d page l = sum_by-remove (on_page page) es i d l

-- how many of the n births from start on have the page of e
abbrev hits : BornTuple → ℕ → ℕ → ℕ
hits e zero start = 0
hits e (suc n) start = on_page (start % 256) e + hits e n (start + 1)

no_hits : (e : BornTuple) (n start at : ℕ) → e.0 % 256 ≡ at % 256 → at < start → start + n ≤ at + 256 → hits e n start ≡ 0
no_hits e zero start at is l m = refl
no_hits e (suc n) start at is l m = go (e.0 % 256 == start % 256) refl (no_hits e n (start + 1) at is (omega arith) (omega arith))
  where
    go : (b : Bool) → (e.0 % 256 == start % 256) ≡ b → hits e n (start + 1) ≡ 0 → cond b 1 0 + hits e n (start + 1) ≡ 0
    go true t below = let same : e.0 % 256 ≡ start % 256 = eqb-true (e.0 % 256) (start % 256) t in absurd (omega arith)
    go false t below = omega arith

few_hits : (e : BornTuple) (n start : ℕ) → n ≤ 256 → hits e n start ≤ 1
few_hits e zero start l = omega arith
few_hits e (suc n) start l = go (e.0 % 256 == start % 256) refl (few_hits e n (start + 1) (omega arith))
  where
    go : (b : Bool) → (e.0 % 256 == start % 256) ≡ b → hits e n (start + 1) ≤ 1 → cond b 1 0 + hits e n (start + 1) ≤ 1
    go true t below =
        let same : e.0 % 256 ≡ start % 256 = eqb-true (e.0 % 256) (start % 256) t in
        let none = no_hits e n (start + 1) start same (omega arith) (omega arith) in
        omega arith
    go false t below = omega arith

-- how many tuples lie on the pages of the n births from start on
abbrev stored_on : List BornTuple → ℕ → ℕ → ℕ
stored_on es zero start = 0
stored_on es (suc n) start = page_count es (start % 256) + stored_on es n (start + 1)

stored_on-nil : (n start : ℕ) → stored_on [] n start ≡ 0
stored_on-nil zero start = refl
stored_on-nil (suc n) start = let r = stored_on-nil n (start + 1) in omega arith

stored_on-cons : (e : BornTuple) (es : List BornTuple) (n start : ℕ) → stored_on (e ∷ es) n start ≡ hits e n start + stored_on es n start
stored_on-cons e es zero start = refl
stored_on-cons e es (suc n) start =
    let a = page_count-cons e es (start % 256) in
    let r = stored_on-cons e es n (start + 1) in
    omega arith

stored_on-le-length : (es : List BornTuple) (n start : ℕ) → n ≤ 256 → stored_on es n start ≤ length es
stored_on-le-length [] n start l = let z = stored_on-nil n start in omega arith
stored_on-le-length (e ∷ es) n start l =
    let a = stored_on-cons e es n start in
    let b = few_hits e n start l in
    let r = stored_on-le-length es n start l in
    omega arith

-- the facts on a birth that has room
pub record HasRoom (es : List BornTuple) (n start birth : ℕ) : Type 0 where
  pub room : page_count es (birth % 256) < 64
  pub not_below : start ≤ birth
  pub soon : birth < start + n

room_from : (es : List BornTuple) (n start : ℕ) → stored_on es n start < 64 * n → HasRoom es n start (first_passing (has_page_room es) n start)
unfolding first_passing
room_from es zero start l = absurd (omega arith)
room_from es (suc n) start l = go (has_page_room es start) refl (room_from es n (start + 1))
  where
    go : (b : Bool) → has_page_room es start ≡ b
        → (stored_on es n (start + 1) < 64 * n → HasRoom es n (start + 1) (first_passing (has_page_room es) n (start + 1)))
        → HasRoom es (suc n) start (cond b start (first_passing (has_page_room es) n (start + 1)))
    go true t below = record { room = ltb-true (page_count es (start % 256)) 64 t; not_below = omega arith; soon = omega arith }
    go false t below =
        let full = ltb-false (page_count es (start % 256)) 64 t in
        let r = below (omega arith) in
        let a = r.not_below in
        let b = r.soon in
        record { room = r.room; not_below = omega arith; soon = omega arith }

pub has_room : (es : List BornTuple) (n start : ℕ) → n ≤ 256 → length es < 64 * n → HasRoom es n start (first_passing (has_page_room es) n start)
has_room es n start l few = let h = stored_on-le-length es n start l in room_from es n start (omega arith)

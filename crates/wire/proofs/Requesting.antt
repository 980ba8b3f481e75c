-- The requests of a batch's text.
use Rattle.std.proofs.Common.{◌≡◌, ℕ, zero, suc, ◌+◌, ◌≤◌, ◌<◌, Bool, true, false, cond, List, [], ◌∷◌, ◌++◌, length, ◌==◌, Option, Some, None, refl, ap, sym, ◌∙◌, ◌-◌, map, arith, eqb-true, append-nil, length-append}
use Rattle.std.specs.Prelude.{◌&&◌, nat_le}
use Rattle.std.proofs.lemmas.Bool.{and_parts, and_from, le-leb, leb-true}
use Rattle.std.specs.Bool.{then_some}
use Rattle.tuple_tree.specs.Reading.{Reader, byte_at}
use Rattle.tuple_tree.proofs.Readers.{bind_some, guard_holds, parts}
use Rattle.wire_format.specs.Spelling.{IsBatch}
use Rattle.wire_format.specs.Reading.{passing, more_at, anyhow, piece_at, is_request, requests_at}
use Rattle.wire_format.specs.Words.{requests_of}
use Rattle.std.specs.Borrow.{Bor}
use Rattle.wire_format.proofs.Carriers.{requests_parts, requests_reads}
use Rattle.wire.proofs.Carrying.{from_count}
use Rattle.wire.proofs.Steps.{none_comes}
use Rattle.wire_format.proofs.Forms.{passed_on}

-- ---- reading

pub no_batch : (text : List ℕ) → requests_at 0 text ≡ None → requests_of text ≡ []
unfolding requests_of
no_batch text e = rw e refl

pub whole : (text rest : List ℕ) (frames : List (List ℕ)) → requests_at 0 text ≡ Some (frames, rest) → (length rest == 0) ≡ true → requests_of text ≡ frames
unfolding requests_of
whole text [] frames e none = rw e refl
whole text (b ∷ rest) frames e none = let z : length (b ∷ rest) ≡ 0 = eqb-true (length (b ∷ rest)) 0 none in absurd (omega arith)

spare_byte : (text rest : List ℕ) (frames : List (List ℕ)) (b : ℕ) → requests_at 0 text ≡ Some (frames, b ∷ rest) → requests_of text ≡ []
unfolding requests_of
spare_byte text rest frames b e = rw e refl

pub spare : (text rest : List ℕ) (frames : List (List ℕ)) → requests_at 0 text ≡ Some (frames, rest) → (length rest == 0) ≡ false → requests_of text ≡ []
spare text [] frames e some = absurd (let g : ⊥ = cc in g)
spare text (b ∷ rest) frames e some = spare_byte text rest frames b e

-- ---- how many are read

pub more_number : {A : Type 0} (at : Reader A) (fits : List A → A → Bool) (n : ℕ) (xs ys : List A) (bs rest : List ℕ)
    → more_at at fits n xs bs ≡ Some (ys, rest) → length ys ≡ length xs + n
more_number at fits zero xs ys bs rest e = omega (arith, ap length (parts e).0)
more_number at fits (suc n) xs ys bs rest e =
    let k = bind_some (at bs) (λ x. cond (fits xs x.0) (more_at at fits n (xs ++ x.0 ∷ []) x.1) None) (ys, rest) e in
    let x = k.0.0 in
    let g = guard_holds (fits xs x) (more_at at fits n (xs ++ x ∷ []) k.0.1) (ys, rest) k.2 in
    omega (arith, more_number at fits n (xs ++ x ∷ []) ys k.0.1 rest g.1, length-append xs (x ∷ []))

counted : (text front : List ℕ) (n : ℕ) (found : List (List ℕ) × List ℕ) → byte_at text ≡ Some (n, front) → requests_at 0 text ≡ Some found → n ≤ 16
unfolding requests_at
counted text front n found byte e =
    let test : ℕ → Bool = λ n. nat_le 0 n && nat_le n 16 in
    let k = bind_some (passing test byte_at text) (λ n. more_at (passing is_request piece_at) anyhow n.0 [] n.1) found e in
    let m = bind_some (byte_at text) (λ x. then_some (test x.0) x) k.0 k.1 in
    let same : n ≡ m.0.0 = (parts (sym byte ∙ m.1)).0 in
    let few : m.0.0 ≤ 16 = leb-true m.0.0 16 (and_parts (nat_le 0 m.0.0) (nat_le m.0.0 16) (passed_on (test m.0.0) m.0 k.0 m.2).0).1 in
    omega (arith, same, few)

few_read : (text rest : List ℕ) (frames : List (List ℕ)) → requests_at 0 text ≡ Some (frames, rest) → length frames ≤ 16
unfolding requests_at
few_read text rest frames e =
    let test : ℕ → Bool = λ n. nat_le 0 n && nat_le n 16 in
    let k = bind_some (passing test byte_at text) (λ n. more_at (passing is_request piece_at) anyhow n.0 [] n.1) (frames, rest) e in
    let m = bind_some (byte_at text) (λ x. then_some (test x.0) x) k.0 k.1 in
    let g = passed_on (test m.0.0) m.0 k.0 m.2 in
    let counted : m.0.0 ≡ k.0.0 = (parts g.1).0 in
    let few : m.0.0 ≤ 16 = leb-true m.0.0 16 (and_parts (nat_le 0 m.0.0) (nat_le m.0.0 16) g.0).1 in
    omega (arith, counted, few, more_number (passing is_request piece_at) anyhow k.0.0 [] frames k.0.1 rest k.2)

pub at_most_16 : (text : List ℕ) → length (requests_of text) ≤ 16
unfolding requests_of
at_most_16 text = cases (requests_at 0 text) refl
  where
    cases : (o : Option (List (List ℕ) × List ℕ)) → requests_at 0 text ≡ o → length (requests_of text) ≤ 16
    cases None e = let none : requests_of text ≡ [] = no_batch text e in omega (arith, ap length none)
    cases (Some (frames, [])) e =
        let same : requests_of text ≡ frames = whole text [] frames e refl in
        omega (arith, ap length same, few_read text [] frames e)
    cases (Some (frames, b ∷ rest)) e =
        let none : requests_of text ≡ [] = spare_byte text rest frames b e in
        omega (arith, ap length none)

-- ---- splitting a text that is known to be a batch

known : (text : List ℕ) → IsBatch 0 text → requests_at 0 text ≡ Some (requests_of text, [])
known text b =
    let v : (requests_parts 0).IsValue b.requests = ((omega (arith, b.few), and_from _ _ (le-leb 0 (length b.requests) (omega arith)) (le-leb _ _ b.few)), (b.each, refl)) in
    let e : requests_at 0 text ≡ Some (b.requests, []) = ap (requests_at 0) (b.whole ∙ sym (append-nil _)) ∙ (requests_reads 0).again b.requests [] v in
    e ∙ ap (λ frames. Some (frames, [])) (sym (whole text [] b.requests e refl))

pub starts : (text front : List ℕ) (n : ℕ) → IsBatch 0 text → byte_at text ≡ Some (n, front)
    → (n ≤ 16) × (more_at (passing is_request piece_at) anyhow n [] front ≡ Some (requests_of text, []))
starts text front n b e =
    let few : n ≤ 16 = counted text front n (requests_of text, []) e (known text b) in
    (few, sym (from_count 0 text front n e (omega arith) few) ∙ known text b)

pub some_bytes : (text : List ℕ) → IsBatch 0 text → byte_at text ≡ None → ⊥
unfolding requests_at
some_bytes text b none =
    let e : requests_at 0 text ≡ None = rw none refl in
    let k = known text b in
    let g : ⊥ = cc in g

-- one more of the requests to come
module _ (n i : ℕ) (xs : List (Bor (List ℕ))) (bs : List ℕ) (all : List (List ℕ) × List ℕ) (left : i < n)
    (known : more_at (passing is_request piece_at) anyhow (n - i) (map (λ f. f.now) xs) bs ≡ Some all) where
  pub no_piece : piece_at bs ≡ None → ⊥
  no_piece none =
      let e = none_comes (passing is_request piece_at) anyhow (λ f. f.now) n i xs bs left (rw none refl) in
      let g : ⊥ = cc in g

  pub a_request : (frame after : List ℕ) → piece_at bs ≡ Some (frame, after) → passing is_request piece_at bs ≡ Some (frame, after)
  a_request frame after piece = cases (is_request frame) refl
    where
      cases : (b : Bool) → is_request frame ≡ b → passing is_request piece_at bs ≡ Some (frame, after)
      cases true e = rw (piece, e) refl
      cases false e =
          let none : passing is_request piece_at bs ≡ None = rw (piece, e) refl in
          let f = none_comes (passing is_request piece_at) anyhow (λ f. f.now) n i xs bs left none in
          absurd (let g : ⊥ = cc in g)

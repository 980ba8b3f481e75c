-- Records by their lengths: where one ends, and that bytes begin with one record at most.
use Rattle.std.proofs.Common.{◌≡◌, ℕ, zero, suc, ◌+◌, ◌-◌, ◌≤◌, ◌<◌, ◌^◌, nat_le, Bool, true, false, MatchBool, List, [], ◌∷◌, ◌++◌, length, take, drop, get_or, refl, sym, ap, ◌∙◌, arith, append_assoc, length-append, length-take-le, drop-cons}
use Rattle.std.specs.Int.{w32, to_be_bytes, from_be_bytes}
use Rattle.std.proofs.lemmas.Bool.{leb-true, leb-false}
use Rattle.std.proofs.lemmas.List.{take_at, drop_at, take-append-drop}
use Rattle.std.proofs.lemmas.Nat.{be_bytes_4, from_be_bytes-to_be_bytes_4}
use Rattle.wire_format.specs.Spelling.{piece}
use Rattle.records.specs.Records.{IsBody, BeginsWithRecord, IsPartial}
use Rattle.records.specs.Taking.{SaysLength}

-- four bytes of one number are those of no other
number_split : (a b : ℕ) (u v : List ℕ) → a < 2 ^ 32 → b < 2 ^ 32 → to_be_bytes w32 a ++ u ≡ to_be_bytes w32 b ++ v → (a ≡ b) × (u ≡ v)
number_split a b u v l m e =
    let front : to_be_bytes w32 a ≡ to_be_bytes w32 b = sym (take_at (to_be_bytes w32 a) u 4 refl) ∙ ap (take 4) e ∙ take_at (to_be_bytes w32 b) v 4 refl in
    let same : a ≡ b = sym (from_be_bytes-to_be_bytes_4 a l) ∙ ap (from_be_bytes w32) front ∙ from_be_bytes-to_be_bytes_4 b m in
    (same, sym (drop_at (to_be_bytes w32 a) u 4 refl) ∙ ap (drop 4) e ∙ drop_at (to_be_bytes w32 b) v 4 refl)

-- bytes that begin with a record say its length first
pub says_body : (body rest : List ℕ) → piece body ++ rest ≡ to_be_bytes w32 (length body) ++ (body ++ rest)
says_body body rest = append_assoc (to_be_bytes w32 (length body)) body rest

-- one record stands at the front
pub one_record : (a b x y : List ℕ) → IsBody a → IsBody b → piece a ++ x ≡ piece b ++ y → (a ≡ b) × (x ≡ y)
one_record a b x y l m e =
    let s = number_split (length a) (length b) (a ++ x) (b ++ y) l m (sym (says_body a x) ∙ e ∙ says_body b y) in (
      sym (take_at a x (length a) refl) ∙ ap (take (length a)) s.1 ∙ ap (λ n. take n (b ++ y)) s.0 ∙ take_at b y (length b) refl,
      sym (drop_at a x (length a) refl) ∙ ap (drop (length a)) s.1 ∙ ap (λ n. drop n (b ++ y)) s.0 ∙ drop_at b y (length b) refl,
    )

-- four bytes say a length
pub says_length : (bytes : List ℕ) (n : ℕ) → 4 ≤ length bytes → ((i : ℕ) → get_or bytes i 0 < 256) → n < 2 ^ 32
    → n ≡ from_be_bytes w32 (get_or bytes 0 0 ∷ get_or bytes 1 0 ∷ get_or bytes 2 0 ∷ get_or bytes 3 0 ∷ []) → SaysLength bytes n
says_length bytes n long each fits e =
    let cells : List ℕ = get_or bytes 0 0 ∷ get_or bytes 1 0 ∷ get_or bytes 2 0 ∷ get_or bytes 3 0 ∷ [] in
    record {
      rest = drop 4 bytes;
      split =
          drop-cons bytes 0 0 (omega arith)
          ∙ ap (λ l. get_or bytes 0 0 ∷ l) (drop-cons bytes 1 0 (omega arith))
          ∙ ap (λ l. get_or bytes 0 0 ∷ get_or bytes 1 0 ∷ l) (drop-cons bytes 2 0 (omega arith))
          ∙ ap (λ l. get_or bytes 0 0 ∷ get_or bytes 1 0 ∷ get_or bytes 2 0 ∷ l) (drop-cons bytes 3 0 (omega arith))
          ∙ ap (λ l. l ++ drop 4 bytes) (sym (be_bytes_4 cells n refl (below each) e));
      fits = fits;
    }
  where
    below : ((i : ℕ) → get_or bytes i 0 < 256) → (i : ℕ) → get_or (get_or bytes 0 0 ∷ get_or bytes 1 0 ∷ get_or bytes 2 0 ∷ get_or bytes 3 0 ∷ []) i 0 < 256
    below each zero = each 0
    below each (suc zero) = each 1
    below each (suc (suc zero)) = each 2
    below each (suc (suc (suc zero))) = each 3
    below each (suc (suc (suc (suc i)))) = omega arith

pub says_len : (bytes : List ℕ) (n : ℕ) (says : SaysLength bytes n) → length bytes ≡ 4 + length says.rest
says_len bytes n says = ap length says.split ∙ length-append (to_be_bytes w32 n) says.rest

-- So many bytes follow: a record.
pub is_whole : (bytes : List ℕ) (n : ℕ) (says : SaysLength bytes n) → n ≤ length says.rest → BeginsWithRecord bytes
is_whole bytes n says there =
    let body = take n says.rest in
    let len : length body ≡ n = length-take-le n says.rest there in
    record {
      body = body;
      rest = drop n says.rest;
      is_body = omega (arith, len, says.fits);
      split =
          says.split ∙ ap (λ l. to_be_bytes w32 n ++ l) (sym (take-append-drop n says.rest))
          ∙ ap (λ k. to_be_bytes w32 k ++ (body ++ drop n says.rest)) (sym len) ∙ sym (says_body body (drop n says.rest));
    }

-- fewer follow: no record
pub is_cut : (bytes : List ℕ) (n : ℕ) (says : SaysLength bytes n) → length says.rest < n → IsPartial bytes
is_cut bytes n says few whole =
    let s = number_split n (length whole.body) says.rest (whole.body ++ whole.rest) says.fits whole.is_body (sym says.split ∙ whole.split ∙ says_body whole.body whole.rest) in
    omega (arith, s.0, ap length s.1, length-append whole.body whole.rest, few)

-- whether so many follow
pub judges : (bytes : List ℕ) (n : ℕ) → SaysLength bytes n → MatchBool (nat_le n (length bytes - 4)) (BeginsWithRecord bytes) (IsPartial bytes)
judges bytes n says = at (nat_le n (length bytes - 4)) refl
  where
    at : (b : Bool) → nat_le n (length bytes - 4) ≡ b → MatchBool b (BeginsWithRecord bytes) (IsPartial bytes)
    at true e = is_whole bytes n says (omega (arith, leb-true n (length bytes - 4) e, says_len bytes n says))
    at false e = is_cut bytes n says (omega (arith, leb-false n (length bytes - 4) e, says_len bytes n says))

-- there are no four bytes
pub is_short : (bytes : List ℕ) → length bytes < 4 → IsPartial bytes
is_short bytes few whole =
    let len = ap length (whole.split ∙ says_body whole.body whole.rest) ∙ length-append (to_be_bytes w32 (length whole.body)) (whole.body ++ whole.rest) in
    omega (arith, len, few)

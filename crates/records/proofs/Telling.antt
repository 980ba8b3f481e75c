-- What records tell: one list of notices, whatever the bytes.
use Rattle.std.proofs.Common.{◌≡◌, ℕ, zero, suc, ◌+◌, ◌-◌, ◌≤◌, ◌<◌, ◌^◌, ◌==◌, nat_le, Bool, true, false, cond, MatchBool, List, [], ◌∷◌, ◌++◌, length, take, drop, get_or, refl, sym, ap, subst, ◌∙◌, arith, length-append, inl, inr, ◌⊎◌}
use Rattle.std.proofs.lemmas.Bool.{leb-true, leb-false, eqb-true, eqb-false, cases_eq, cases_lt}
use Rattle.std.proofs.lemmas.List.{take_at, drop_at}
use Rattle.tuple_tree.proofs.Readers.{bytes_take, bytes_drop}
use Rattle.std.specs.Int.{w32, w64, to_be_bytes, from_be_bytes}
use Rattle.std.proofs.lemmas.Nat.{be_bytes_8, from_be_bytes-to_be_bytes_8}
use Rattle.tuple_tree.specs.Values.{AreBytes}
use Rattle.wire_format.specs.Spelling.{piece}
use Rattle.records.specs.Records.{IsBody, IsPartial, NoticeData, came, timer_over, linked, notice_body, IsNotice, TellsNotice, TellsNothing, BeginsWithRecord, TellNotices, ends, tells, passes}
use Rattle.records.specs.Laws.{InputsTell, InputsTellOne, KeptTellTheSame}
use Rattle.records.specs.declared.notice.TheConstants.{MAX_RECORD}
use Rattle.records.proofs.Framing.{one_record, says_body, says_length, judges, is_short}

-- one body tells one notice
same_number : (a b : ℕ) → a < 2 ^ 64 → b < 2 ^ 64 → to_be_bytes w64 a ≡ to_be_bytes w64 b → a ≡ b
same_number a b l m e = sym (from_be_bytes-to_be_bytes_8 a l) ∙ ap (from_be_bytes w64) e ∙ from_be_bytes-to_be_bytes_8 b m

one_notice : (a b : NoticeData) → IsNotice a → IsNotice b → notice_body a ≡ notice_body b → a ≡ b
one_notice (came x) (came y) l m e = cc
one_notice (came x) (timer_over n) l m e = absurd (let h : ⊥ = cc in h)
one_notice (came x) (linked n) l m e = absurd (let h : ⊥ = cc in h)
one_notice (timer_over n) (came x) l m e = absurd (let h : ⊥ = cc in h)
one_notice (timer_over n) (timer_over k) l m e = ap timer_over (same_number n k l m (ap (drop 1) e))
one_notice (timer_over n) (linked k) l m e = absurd (let h : ⊥ = cc in h)
one_notice (linked n) (came x) l m e = absurd (let h : ⊥ = cc in h)
one_notice (linked n) (timer_over k) l m e = absurd (let h : ⊥ = cc in h)
one_notice (linked n) (linked k) l m e = cc

-- ---- no bytes tell two lists

abbrev Same : List ℕ → List NoticeData → Type 0
Same bytes notices = (others : List NoticeData) (other : List ℕ) → TellNotices other others → other ≡ bytes → notices ≡ others

at_end : (bytes : List ℕ) → IsPartial bytes → Same bytes []
at_end bytes partial others other (ends p) e = refl
at_end bytes partial others other (tells {body = b} {rest = r} m u s) e =
    absurd (partial (record { body = b; rest = r; is_body = m; split = sym e }))
at_end bytes partial others other (passes {body = b} {rest = r} m u s) e =
    absurd (partial (record { body = b; rest = r; is_body = m; split = sym e }))

module _ (body rest : List ℕ) (notices : List NoticeData) (is_body : IsBody body) (same : Same rest notices) where
  at_notice : (notice : NoticeData) → TellsNotice body notice → Same (piece body ++ rest) (notice ∷ notices)
  at_notice notice told others other (ends partial) e =
      absurd (partial (record { body = body; rest = rest; is_body = is_body; split = e }))
  at_notice notice told others other (tells {body = b} {rest = r} {notice = n} {notices = ns} m u s) e =
      let one = one_record b body r rest m is_body e in
      let first : notice ≡ n = one_notice notice n told.0 u.0 (sym told.1 ∙ sym one.0 ∙ u.1) in
      ap (λ x. x ∷ notices) first ∙ ap (λ xs. n ∷ xs) (same ns r s one.1)
  at_notice notice told others other (passes {body = b} {rest = r} m nothing s) e =
      let one = one_record b body r rest m is_body e in
      absurd (nothing notice (told.0, one.0 ∙ told.1))

  at_nothing : TellsNothing body → Same (piece body ++ rest) notices
  at_nothing nothing others other (ends partial) e =
      absurd (partial (record { body = body; rest = rest; is_body = is_body; split = e }))
  at_nothing nothing others other (tells {body = b} {rest = r} {notice = n} {notices = ns} m u s) e =
      let one = one_record b body r rest m is_body e in
      absurd (nothing n (u.0, sym one.0 ∙ u.1))
  at_nothing nothing others other (passes {body = b} {rest = r} m none s) e =
      same others r s (one_record b body r rest m is_body e).1

one_list : (bytes : List ℕ) (notices : List NoticeData) → TellNotices bytes notices → Same bytes notices
one_list bytes notices (ends partial) = at_end bytes partial
one_list bytes notices (tells {body = b} {rest = r} {notice = n} {notices = ns} m u s) = at_notice b r ns m (one_list r ns s) n u
one_list bytes notices (passes {body = b} {rest = r} m u s) = at_nothing b r notices m (one_list r notices s) u

pub inputs_tell_one : InputsTellOne
inputs_tell_one bytes notices others t s = one_list bytes notices t others bytes s refl

-- ---- all bytes tell a list

abbrev Judged : List ℕ → Type 0
Judged body = ((notice : NoticeData) × TellsNotice body notice) ⊎ TellsNothing body

-- a byte of kind, and what it has for content
is_frame : (content : List ℕ) → Judged (1 ∷ content)
is_frame content = at (nat_le (length content) 4194304) refl
  where
    at : (b : Bool) → nat_le (length content) 4194304 ≡ b → Judged (1 ∷ content)
    at true e = inl (came content, (leb-true (length content) 4194304 e, refl))
    at false e = inr (none (leb-false (length content) 4194304 e))
      where
        none : 4194304 < length content → TellsNothing (1 ∷ content)
        none long (came x) (short, same) = let s : content ≡ x = cc in omega (arith, ap length s, short, long)
        none long (timer_over n) (short, same) = cc
        none long (linked n) (short, same) = cc

is_links : (content : List ℕ) → AreBytes content → Judged (3 ∷ content)
is_links [] each = inr none
  where
    none : TellsNothing (3 ∷ [])
    none (came x) (short, same) = cc
    none (timer_over n) (short, same) = cc
    none (linked n) (short, same) = cc
is_links (count ∷ []) each = inl (linked count, (each 0, refl))
is_links (count ∷ more ∷ others) each = inr none
  where
    none : TellsNothing (3 ∷ count ∷ more ∷ others)
    none (came x) (short, same) = cc
    none (timer_over n) (short, same) = cc
    none (linked n) (short, same) = cc

is_timer : (content : List ℕ) → AreBytes content → Judged (2 ∷ content)
is_timer content each = at (length content == 8) refl
  where
    at : (b : Bool) → (length content == 8) ≡ b → Judged (2 ∷ content)
    at true e =
        let number = from_be_bytes w64 content in
        let fits : number < 2 ^ 64 = omega (arith, each 0, each 1, each 2, each 3, each 4, each 5, each 6, each 7) in
        inl (timer_over number, (fits, ap (λ l. 2 ∷ l) (sym (be_bytes_8 content number (eqb-true (length content) 8 e) each refl))))
    at false e = inr (none (eqb-false (length content) 8 e))
      where
        none : (length content ≡ 8 → ⊥) → TellsNothing (2 ∷ content)
        none other (came x) (short, same) = cc
        none other (timer_over n) (short, same) = other (ap (λ l. length (drop 1 l)) same)
        none other (linked n) (short, same) = cc

-- any body tells something or nothing
judged : (body : List ℕ) → AreBytes body → Judged body
judged [] each = inr none
  where
    none : TellsNothing []
    none (came x) (short, same) = cc
    none (timer_over n) (short, same) = cc
    none (linked n) (short, same) = cc
judged (kind ∷ content) each = at (cases_eq kind 1) (cases_eq kind 2) (cases_eq kind 3)
  where
    rest : AreBytes content
    rest i = each (suc i)

    none : (kind ≡ 1 → ⊥) → (kind ≡ 2 → ⊥) → (kind ≡ 3 → ⊥) → TellsNothing (kind ∷ content)
    none a b c (came x) (short, same) = a (cc)
    none a b c (timer_over n) (short, same) = b (cc)
    none a b c (linked n) (short, same) = c (cc)

    at : (kind ≡ 1) ⊎ (kind ≡ 1 → ⊥) → (kind ≡ 2) ⊎ (kind ≡ 2 → ⊥) → (kind ≡ 3) ⊎ (kind ≡ 3 → ⊥) → Judged (kind ∷ content)
    at (inl e) b c = subst (λ k. Judged (k ∷ content)) (sym e) (is_frame content)
    at (inr a) (inl e) c = subst (λ k. Judged (k ∷ content)) (sym e) (is_timer content rest)
    at (inr a) (inr b) (inl e) = subst (λ k. Judged (k ∷ content)) (sym e) (is_links content rest)
    at (inr a) (inr b) (inr c) = inr (none a b c)

-- ---- record by record

begins_or_not : (bytes : List ℕ) → AreBytes bytes → BeginsWithRecord bytes ⊎ IsPartial bytes
begins_or_not bytes each = at (cases_lt (length bytes) 4)
  where
    at : (length bytes < 4) ⊎ (4 ≤ length bytes) → BeginsWithRecord bytes ⊎ IsPartial bytes
    at (inl few) = inr (is_short bytes few)
    at (inr long) =
        let cells : List ℕ = get_or bytes 0 0 ∷ get_or bytes 1 0 ∷ get_or bytes 2 0 ∷ get_or bytes 3 0 ∷ [] in
        let n = from_be_bytes w32 cells in
        let fits : n < 2 ^ 32 = omega (arith, each 0, each 1, each 2, each 3) in
        either_way (nat_le n (length bytes - 4)) (judges bytes n (says_length bytes n long each fits refl))
      where
        either_way : (b : Bool) → MatchBool b (BeginsWithRecord bytes) (IsPartial bytes) → BeginsWithRecord bytes ⊎ IsPartial bytes
        either_way true h = inl h
        either_way false h = inr h

abbrev SomeList : List ℕ → Type 0
SomeList bytes = (notices : List NoticeData) × TellNotices bytes notices

-- what follows four bytes of length, part by part
module _ (bytes : List ℕ) (whole : BeginsWithRecord bytes) where
  behind : drop 4 bytes ≡ whole.body ++ whole.rest
  behind =
      ap (drop 4) (whole.split ∙ says_body whole.body whole.rest)
      ∙ drop_at (to_be_bytes w32 (length whole.body)) (whole.body ++ whole.rest) 4 refl

  body_bytes : AreBytes bytes → AreBytes whole.body
  body_bytes each =
      subst AreBytes (ap (take (length whole.body)) behind ∙ take_at whole.body whole.rest (length whole.body) refl)
      (bytes_take (length whole.body) (drop 4 bytes) (bytes_drop 4 bytes each))

  rest_bytes : AreBytes bytes → AreBytes whole.rest
  rest_bytes each =
      subst AreBytes (ap (drop (length whole.body)) behind ∙ drop_at whole.body whole.rest (length whole.body) refl)
      (bytes_drop (length whole.body) (drop 4 bytes) (bytes_drop 4 bytes each))

  rest_len : length whole.rest + 4 ≤ length bytes
  rest_len =
      let e = ap length (whole.split ∙ says_body whole.body whole.rest) ∙ length-append (to_be_bytes w32 (length whole.body)) (whole.body ++ whole.rest) in
      omega (arith, e, length-append whole.body whole.rest)

  with_rest : AreBytes bytes → SomeList whole.rest → SomeList bytes
  with_rest each more = subst SomeList (sym whole.split) (from (judged whole.body (body_bytes each)))
    where
      from : Judged whole.body → SomeList (piece whole.body ++ whole.rest)
      from (inl told) = (told.0 ∷ more.0, tells whole.is_body told.1 more.1)
      from (inr nothing) = (more.0, passes whole.is_body nothing more.1)

some_list : (n : ℕ) (bytes : List ℕ) → length bytes ≤ n → AreBytes bytes → SomeList bytes
some_list zero bytes short each = ([], ends (is_short bytes (omega arith)))
some_list (suc n) bytes short each =
    elim (begins_or_not bytes each) as (λ _. SomeList bytes) [
      | inl whole ↦ with_rest bytes whole each
          (some_list n whole.rest (omega (arith, rest_len bytes whole)) (rest_bytes bytes whole each))
      | inr partial ↦ ([], ends partial)
    ]

pub inputs_tell : InputsTell
inputs_tell bytes each = some_list (length bytes) bytes (omega arith) each

-- ---- what is kept of a record

-- an empty body tells nothing
empty_tells : (notice : NoticeData) → TellsNotice [] notice → ⊥
empty_tells (came x) (short, same) = cc
empty_tells (timer_over n) (short, same) = cc
empty_tells (linked n) (short, same) = cc

-- what tells something is not too long
told_short : (body : List ℕ) (notice : NoticeData) → TellsNotice body notice → length body ≤ MAX_RECORD
told_short body (came x) (short, same) = omega (arith, ap length same, short)
told_short body (timer_over n) (short, same) = omega (arith, ap length same)
told_short body (linked n) (short, same) = omega (arith, ap length same)

pub kept_tell_the_same : KeptTellTheSame
kept_tell_the_same body = at (nat_le (length body) MAX_RECORD) refl
  where
    at : (b : Bool) → nat_le (length body) MAX_RECORD ≡ b
        → ((notice : NoticeData) → TellsNotice (cond b body []) notice → TellsNotice body notice)
        × (TellsNothing (cond b body []) → TellsNothing body)
    at true e = ((λ notice t. t), λ t. t)
    at false e = (
      (λ notice t. absurd (empty_tells notice t)),
      λ t notice told. omega (arith, told_short body notice told, leb-false (length body) MAX_RECORD e),
    )

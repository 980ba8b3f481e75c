-- What runs are made of.
use Rattle.std.proofs.Common.{◌≡◌, ℕ, zero, suc, ◌+◌, ◌-◌, ◌<◌, ◌≤◌, List, [], ◌++◌, length, take, drop, length-drop, take-add, subst, sym, arith}
use Rattle.std.proofs.Math.Seq.{take-length}
use Rattle.tuple_codec.specs.Operations.{Operation, out, rdp, inp, cas, rd_all, in_all, upgrade, Outcome}
use Rattle.tuple_codec.specs.Spelling.{SpellsOperation, operation_spelling, outcome_spelling}
use Rattle.space.specs.Applying.{Contents, outcome}
use Rattle.space_library.specs.Running.{RunsBytes, nothing, one_more, RunsNext}

-- Each operation has a tag.
some_byte : (o : Operation) → 0 < length (operation_spelling o)
some_byte (out t) = omega arith
some_byte (rdp p) = omega arith
some_byte (inp p) = omega arith
some_byte (cas p t) = omega arith
some_byte (rd_all n p) = omega arith
some_byte (in_all n p) = omega arith
some_byte upgrade = omega arith

pub some_spelled : (len : ℕ) (bytes : List ℕ) (o : Operation) → SpellsOperation (take len bytes) o → 0 < len
some_spelled zero bytes o spells = subst (λ (bs : List ℕ). 0 < length bs) (sym spells.spelled) (some_byte o)
some_spelled (suc n) bytes o spells = omega arith

pub answered_with : (before after : List ℕ) (r s : Outcome) → after ≡ before ++ outcome_spelling r → r ≡ s → after ≡ before ++ outcome_spelling s
answered_with before after r s e same = subst (λ (x : Outcome). after ≡ before ++ outcome_spelling x) same e

-- A run begins with nothing.
pub starts : (first : Contents) (answers : List ℕ) → answers ≡ [] → RunsBytes first [] answers first
starts first answers e = subst (λ (xs : List ℕ). RunsBytes first [] xs first) (sym e) nothing

pub no_length : (xs : List ℕ) (n : ℕ) → xs ≡ [] → length xs ≤ n
no_length xs n e = subst (λ (ys : List ℕ). length ys ≤ n) (sym e) (omega arith)

-- what is left of the bytes, as the code takes it
abbrev rest : List ℕ → ℕ → List ℕ
rest bytes read = take (length bytes - read) (drop read bytes)

rest_is_dropped : (bytes : List ℕ) (read : ℕ) → rest bytes read ≡ drop read bytes
rest_is_dropped bytes read = subst (λ (n : ℕ). take n (drop read bytes) ≡ drop read bytes) (length-drop read bytes) (take-length (drop read bytes))

pub within_all : (bytes : List ℕ) (read len : ℕ) → read ≤ length bytes → len ≤ length (rest bytes read) → read + len ≤ length bytes
within_all bytes read len low more =
    let less : len ≤ length (drop read bytes) = subst (λ (bs : List ℕ). len ≤ length bs) (rest_is_dropped bytes read) more in
    let e = length-drop read bytes in
    omega (arith, e, low, less)

-- A run goes on by the next operation.
pub goes_on : (first old new : Contents) (before after bytes : List ℕ) (read len : ℕ)
    → RunsBytes first (take read bytes) before old → RunsNext len (rest bytes read) old new before after
    → RunsBytes first (take (read + len) bytes) after new
goes_on first old new before after bytes read len run more =
    let next : RunsNext len (drop read bytes) old new before after = subst (λ (bs : List ℕ). RunsNext len bs old new before after) (rest_is_dropped bytes read) more in
    let spelled : List ℕ = take len (drop read bytes) in
    let whole : List ℕ = take read bytes ++ spelled in
    subst (λ (bs : List ℕ). RunsBytes first bs after new) (sym (take-add read len bytes))
    (subst (λ (written : List ℕ). RunsBytes first whole written new) (sym next.answered)
    (subst (λ (held : Contents). RunsBytes first whole (before ++ outcome_spelling (outcome old 0 next.op)) held) (sym next.left)
    (one_more next.op spelled run next.spelled)))

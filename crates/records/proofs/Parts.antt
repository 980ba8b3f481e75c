-- Parts of a reader's bytes, one after another.
use Rattle.std.proofs.Common.{◌≡◌, ℕ, ◌+◌, ◌<◌, Bool, true, false, List, [], ◌++◌, length, Option, Some, None, IfSome, MatchBool, sym, ap, subst, ◌∙◌, arith, append_assoc, length-append}
use Rattle.records.specs.Taking.{TakesPart, TakesMore}

-- a part behind another one
then : (xs : List ℕ) (known left : Option (List ℕ)) (before mid after : List ℕ) (first : TakesMore xs known before mid)
    → TakesMore first.takes.rest left mid after → TakesMore xs left before after
then xs known left before mid after first more = record {
  part = first.part ++ more.part;
  takes = record {
    rest = more.takes.rest;
    split = first.takes.split ∙ ap (λ l. first.part ++ l) more.takes.split ∙ sym (append_assoc first.part more.part more.takes.rest);
    left_is = more.takes.left_is;
  };
  kept = more.kept ∙ ap (λ l. l ++ more.part) first.kept ∙ append_assoc before first.part more.part;
}

-- What holds of the bytes that are left, if they are known, holds of the rest.
of_rest : (P : List ℕ → Type 0) (xs : List ℕ) (known : Option (List ℕ)) (before mid : List ℕ) (first : TakesMore xs known before mid)
    → IfSome known P → P first.takes.rest
of_rest P xs known before mid first h = subst (λ o. IfSome o P) first.takes.left_is h

pub takes_more : (start known left : Option (List ℕ)) (before mid after : List ℕ) → IfSome start (λ xs. TakesMore xs known before mid)
    → IfSome known (λ ys. TakesMore ys left mid after) → IfSome start (λ xs. TakesMore xs left before after)
takes_more None known left before mid after first more = tt
takes_more (Some xs) known left before mid after first more =
    then xs known left before mid after first (of_rest (λ ys. TakesMore ys left mid after) xs known before mid first more)

-- a read that took something
pub took_some : (known left : Option (List ℕ)) (before after : List ℕ) (more : Bool) → more ≡ true
    → IfSome known (λ xs. MatchBool more (TakesMore xs left before after) ((xs ≡ []) × (after ≡ before)))
    → IfSome known (λ xs. TakesMore xs left before after)
took_some None left before after more e h = tt
took_some (Some xs) left before after true e h = h
took_some (Some xs) left before after false e h = absurd (let h : ⊥ = cc in h)

-- ---- parts that are passed

-- what is passed so far, and how much is left to pass
abbrev pub HasPassed : ℕ → ℕ → Option (List ℕ) → Option (List ℕ) → Type 0
HasPassed count left start known = IfSome start (λ xs. (part : List ℕ) × TakesPart xs known part × (length part + left ≡ count))

pub passed_more : (count left some less : ℕ) (start known new : Option (List ℕ)) (before after : List ℕ) (full : Bool) → full ≡ true → less + some ≡ left → before ≡ []
    → HasPassed count left start known
    → IfSome known (λ ys. MatchBool full (TakesMore ys new before after × (length after ≡ some)) ((after ≡ before ++ ys) × (length after < some)))
    → HasPassed count less start new
passed_more count left some less None known new before after full e l b passed more = tt
passed_more count left some less (Some xs) known new before after false e l b passed more = absurd (let h : ⊥ = cc in h)
passed_more count left some less (Some xs) known new before after true e l b (part, takes, len) more =
    let next = subst (λ o. IfSome o (λ ys. TakesMore ys new before after × (length after ≡ some))) takes.left_is more in (
      part ++ next.0.part,
      record {
        rest = next.0.takes.rest;
        split = takes.split ∙ ap (λ l. part ++ l) next.0.takes.split ∙ sym (append_assoc part next.0.part next.0.takes.rest);
        left_is = next.0.takes.left_is;
      },
      omega (arith, len, l, next.1, ap length next.0.kept, ap length b, length-append before next.0.part, length-append part next.0.part),
    )

-- The choice of a batch for a number, and the batches after a start.
use Rattle.std.proofs.Common.{◌≡◌, ℕ, zero, suc, ◌+◌, ◌≤◌, ◌<◌, ◌⊎◌, inl, inr, Bool, true, false, List, [], ◌∷◌, ◌++◌, length, drop, get_or, drop-cons, refl, sym, ap, ap₂, ◌∙◌, subst, arith, ◌&&◌, ◌||◌}
use Rattle.std.specs.Arc.{arc_value}
use Rattle.std.specs.declared.alloc.Global.{Global}
use Rattle.std.specs.declared.sync.Arc.{Arc}
use Rattle.std.proofs.lemmas.Bool.{and_from, or_left, or_right, or_from, and_right, false_from_ne_true}
use Rattle.sha2.specs.Sha256.{sha256}
use Rattle.protocol.specs.System.Configuration.{Configuration}
use Rattle.protocol.specs.System.Trace.{Has}
use Rattle.protocol.specs.Replica.Selection.{may_stand_at, may_be_null, null_batch, is_null, is_some_below, may_stand, may_all_stand}
use Rattle.protocol.proofs.Words.Elements.{each_where}
use Rattle.wire_format.specs.Messages.{ViewChangeData}
use Rattle.view_change.specs.Sets.{texts_of}
use Rattle.view_change.specs.Selecting.{are_for, stands_by_entry, goes_before, how_many_from, IsAvailable, AreFrom, IsFirstChoice, AreFirstChoices, NothingFrom}
use Rattle.view_change.specs.Filling.{StandsAt, NoneStandsAt}
use Rattle.view_change.proofs.Supporting.{entries_decide}
use Rattle.view_change.proofs.Gaps.{gaps_forbid}
use Rattle.view_change.proofs.Larger.{all_stand_append}
use Rattle.view_change.proofs.Ranking.{goes_before-self, goes_before-trans, stands_before, none_stands}

by_entry : (c : Configuration) (view number : ℕ) (set : List (ℕ × ViewChangeData)) (text : List ℕ) → are_for view set c ≡ true
    → stands_by_entry c set number (sha256 text) set ≡ true → may_stand c view set number text ≡ true
by_entry c view number set text fit h =
    or_left (is_some_below (may_stand_at c set number (sha256 text)) view) (is_null text && may_be_null c set number) (entries_decide c view number (sha256 text) set fit ∙ h)

no_entry : (c : Configuration) (view number : ℕ) (set : List (ℕ × ViewChangeData)) (text : List ℕ) → are_for view set c ≡ true
    → stands_by_entry c set number (sha256 text) set ≡ false → may_be_null c set number ≡ false → may_stand c view set number text ≡ false
no_entry c view number set text fit h null =
    or_from (is_some_below (may_stand_at c set number (sha256 text)) view) (is_null text && may_be_null c set number)
    (entries_decide c view number (sha256 text) set fit ∙ h) (and_right (is_null text) (may_be_null c set number) null)

-- ---- the first of some

-- the best of all batches outside the rest
pub record IsBest (c : Configuration) (set : List (ℕ × ViewChangeData)) (texts : List (List ℕ)) (number : ℕ) (rest : List (List ℕ)) (best : List ℕ) : Type 0 where
  pub there : IsAvailable texts best
  pub first : (other : List ℕ) → IsAvailable texts other → Has (λ t. t ≡ other) rest ⊎ (goes_before c set number (sha256 other) (sha256 best) ≡ false)
  pub null : stands_by_entry c set number (sha256 best) set ≡ false → best ≡ null_batch

not_before_self : (c : Configuration) (set : List (ℕ × ViewChangeData)) (number : ℕ) (x y : List ℕ) → x ≡ y → goes_before c set number (sha256 y) (sha256 x) ≡ false
not_before_self c set number x y e = subst (λ z. goes_before c set number (sha256 z) (sha256 x) ≡ false) e (goes_before-self c set number (sha256 x))

pub best_begins : (c : Configuration) (set : List (ℕ × ViewChangeData)) (texts : List (List ℕ)) (number : ℕ) (null : List ℕ) → null ≡ null_batch → IsBest c set texts number texts null
best_begins c set texts number null is = record { there = inl (sym is); first = first; null = λ h. is }
  where
    first : (other : List ℕ) → IsAvailable texts other → Has (λ t. t ≡ other) texts ⊎ (goes_before c set number (sha256 other) (sha256 null) ≡ false)
    first other (inl same) = inr (not_before_self c set number null other (is ∙ same))
    first other (inr has) = inl has

won : (c : Configuration) (set : List (ℕ × ViewChangeData)) (texts : List (List ℕ)) (number : ℕ) (x best : List ℕ) (rest : List (List ℕ)) → IsAvailable texts x
    → goes_before c set number (sha256 x) (sha256 best) ≡ true → IsBest c set texts number (x ∷ rest) best → IsBest c set texts number rest x
won c set texts number x best rest from before old = record {
  there = from;
  first = λ other has. go other (old.first other has);
  null = λ none. absurd (let s = stands_before c set number (sha256 x) (sha256 best) before in cc);
}
  where
    go : (other : List ℕ) → Has (λ t. t ≡ other) (x ∷ rest) ⊎ (goes_before c set number (sha256 other) (sha256 best) ≡ false)
        → Has (λ t. t ≡ other) rest ⊎ (goes_before c set number (sha256 other) (sha256 x) ≡ false)
    go other (inl (inl same)) = inr (not_before_self c set number x other same)
    go other (inl (inr has)) = inl has
    go other (inr f) =
        inr (false_from_ne_true (goes_before c set number (sha256 other) (sha256 x))
        (λ t. let b = goes_before-trans c set number (sha256 other) (sha256 x) (sha256 best) t before in absurd cc))

lost : (c : Configuration) (set : List (ℕ × ViewChangeData)) (texts : List (List ℕ)) (number : ℕ) (x best : List ℕ) (rest : List (List ℕ))
    → goes_before c set number (sha256 x) (sha256 best) ≡ false → IsBest c set texts number (x ∷ rest) best → IsBest c set texts number rest best
lost c set texts number x best rest not_before old = record { there = old.there; first = λ other has. go other (old.first other has); null = old.null }
  where
    go : (other : List ℕ) → Has (λ t. t ≡ other) (x ∷ rest) ⊎ (goes_before c set number (sha256 other) (sha256 best) ≡ false)
        → Has (λ t. t ≡ other) rest ⊎ (goes_before c set number (sha256 other) (sha256 best) ≡ false)
    go other (inl (inl same)) = inr (subst (λ z. goes_before c set number (sha256 z) (sha256 best) ≡ false) same not_before)
    go other (inl (inr has)) = inl has
    go other (inr f) = inr f

there_at : (held : List (Arc (List ℕ) Global)) (i : ℕ) (z : Arc (List ℕ) Global) → i < length held → Has (λ t. t ≡ arc_value (get_or held i z)) (texts_of held)
there_at [] i z l = absurd (omega arith)
there_at (x ∷ xs) zero z l = inl refl
there_at (x ∷ xs) (suc i) z l = inr (there_at xs i z (omega arith))

left : (held : List (Arc (List ℕ) Global)) (i : ℕ) (z : Arc (List ℕ) Global) → i < length held → texts_of (drop i held) ≡ arc_value (get_or held i z) ∷ texts_of (drop (i + 1) held)
left held i z l = let e : suc i ≡ i + 1 = omega arith in ap texts_of (drop-cons held i z l) ∙ ap (λ k. arc_value (get_or held i z) ∷ texts_of (drop k held)) e

pub best_more : (c : Configuration) (set : List (ℕ × ViewChangeData)) (number : ℕ) (held : List (Arc (List ℕ) Global)) (i : ℕ) (z : Arc (List ℕ) Global) (best : List ℕ) (b : Bool) → i < length held
    → b ≡ goes_before c set number (sha256 (arc_value (get_or held i z))) (sha256 best) → IsBest c set (texts_of held) number (texts_of (drop i held)) best
    → ((b ≡ true) → IsBest c set (texts_of held) number (texts_of (drop (i + 1) held)) (arc_value (get_or held i z)))
    × ((b ≡ false) → IsBest c set (texts_of held) number (texts_of (drop (i + 1) held)) best)
best_more c set number held i z best b l is old =
    let now = subst (λ rest. IsBest c set (texts_of held) number rest best) (left held i z l) old in (
      λ h. won c set (texts_of held) number (arc_value (get_or held i z)) best (texts_of (drop (i + 1) held)) (inr (there_at held i z l)) (sym is ∙ h) now,
      λ h. lost c set (texts_of held) number (arc_value (get_or held i z)) best (texts_of (drop (i + 1) held)) (sym is ∙ h) now,
    )

not_before : (c : Configuration) (set : List (ℕ × ViewChangeData)) (texts : List (List ℕ)) (number : ℕ) (best other : List ℕ) → IsBest c set texts number [] best → IsAvailable texts other
    → goes_before c set number (sha256 other) (sha256 best) ≡ false
not_before c set texts number best other b from = go (b.first other from)
  where
    go : Has (λ t. t ≡ other) [] ⊎ (goes_before c set number (sha256 other) (sha256 best) ≡ false) → goes_before c set number (sha256 other) (sha256 best) ≡ false
    go (inl has) = absurd has
    go (inr f) = f

-- the best of all, if it may stand or be null; else none may stand
pub chosen : (c : Configuration) (view number : ℕ) (set : List (ℕ × ViewChangeData)) (texts : List (List ℕ)) (best : List ℕ) (stands null : Bool) → are_for view set c ≡ true
    → IsBest c set texts number [] best → stands ≡ stands_by_entry c set number (sha256 best) set → null ≡ may_be_null c set number → (stands || null) ≡ true → StandsAt c view set texts number best
chosen c view number set texts best stands null fit b is be h = record {
  stands = go stands is h;
  from = b.there;
  first = each_where (λ other. goes_before c set number (sha256 other) (sha256 best) ≡ false) (null_batch ∷ texts) (λ other from. not_before c set texts number best other b from);
}
  where
    go : (s : Bool) → s ≡ stands_by_entry c set number (sha256 best) set → (s || null) ≡ true → may_stand c view set number best ≡ true
    go true e h = by_entry c view number set best fit (sym e)
    go false e h =
        or_right (is_some_below (may_stand_at c set number (sha256 best)) view) (is_null best && may_be_null c set number)
        (and_from (is_null best) (may_be_null c set number) (subst (λ z. is_null z ≡ true) (sym (b.null (sym e))) refl) (sym be ∙ h))

pub none_chosen : (c : Configuration) (view number : ℕ) (set : List (ℕ × ViewChangeData)) (texts : List (List ℕ)) (best : List ℕ) (stands null : Bool) → are_for view set c ≡ true
    → IsBest c set texts number [] best → stands ≡ stands_by_entry c set number (sha256 best) set → null ≡ may_be_null c set number → (stands || null) ≡ false → NoneStandsAt c view set texts number
none_chosen c view number set texts best true null fit b is be h other from = absurd cc
none_chosen c view number set texts best false null fit b is be h other from =
    no_entry c view number set other fit (none_stands c set number (sha256 other) (sha256 best) (sym is) (not_before c set texts number best other b from)) (sym be ∙ h)

-- ---- one batch more

-- batches as far as a number
pub record FillsTo (c : Configuration) (view : ℕ) (set : List (ℕ × ViewChangeData)) (texts : List (List ℕ)) (start number : ℕ) (batches : List (List ℕ)) : Type 0 where
  pub long : start + length batches ≡ number
  pub stand : may_all_stand c view set (suc start) batches ≡ true
  pub from : AreFrom texts batches
  pub first : AreFirstChoices c set texts (suc start) batches

length_more : (xs : List (List ℕ)) (y : List ℕ) → length (xs ++ y ∷ []) ≡ suc (length xs)
length_more [] y = refl
length_more (x ∷ xs) y = ap suc (length_more xs y)

from_more : (texts xs : List (List ℕ)) (y : List ℕ) → AreFrom texts xs → IsAvailable texts y → AreFrom texts (xs ++ y ∷ [])
from_more texts [] y h k = (k, tt)
from_more texts (x ∷ xs) y h k = (h.0, from_more texts xs y h.1 k)

first_more : (c : Configuration) (set : List (ℕ × ViewChangeData)) (texts : List (List ℕ)) (i j : ℕ) (xs : List (List ℕ)) (y : List ℕ) → j ≡ i + length xs → AreFirstChoices c set texts i xs → IsFirstChoice c set texts j y
    → AreFirstChoices c set texts i (xs ++ y ∷ [])
first_more c set texts i j [] y is h k = (let e : j ≡ i = omega arith in subst (λ n. IsFirstChoice c set texts n y) e k, tt)
first_more c set texts i j (x ∷ xs) y is h k = (h.0, first_more c set texts (suc i) j xs y (omega arith) h.1 k)

pub fills_more : (c : Configuration) (view : ℕ) (set : List (ℕ × ViewChangeData)) (texts : List (List ℕ)) (start number : ℕ) (batches : List (List ℕ)) (batch : List ℕ)
    → FillsTo c view set texts start number batches → StandsAt c view set texts (number + 1) batch → FillsTo c view set texts start (number + 1) (batches ++ batch ∷ [])
fills_more c view set texts start number batches batch f s =
    let long = f.long in
    let more = length_more batches batch in
    record {
      long = omega arith;
      stand = all_stand_append c view (suc start) set batches (batch ∷ []) (number + 1) (omega arith) f.stand (and_from (may_stand c view set (number + 1) batch) true s.stands refl);
      from = from_more texts batches batch f.from s.from;
      first = first_more c set texts (suc start) (number + 1) batches batch (omega arith) f.first s.first;
    }

pub gap : (c : Configuration) (view : ℕ) (set : List (ℕ × ViewChangeData)) (texts : List (List ℕ)) (start number : ℕ) (root : List ℕ) → start ≤ number → number < start + how_many_from c set start
    → NoneStandsAt c view set texts (number + 1) → NothingFrom c view set texts start root
gap c view set texts start number root from less none batches are =
    gaps_forbid c view start (number + 1) root set texts batches (omega arith) (omega arith) none are

-- the texts of batches with one more
pub texts_more : (xs ys : List (Arc (List ℕ) Global)) (b : Arc (List ℕ) Global) (text : List ℕ) → ys ≡ xs ++ b ∷ [] → arc_value b ≡ text → texts_of ys ≡ texts_of xs ++ text ∷ []
texts_more xs ys b text e is = ap texts_of e ∙ (go xs ∙ ap (λ t. texts_of xs ++ t ∷ []) is)
  where
    go : (xs : List (Arc (List ℕ) Global)) → texts_of (xs ++ b ∷ []) ≡ texts_of xs ++ arc_value b ∷ []
    go [] = refl
    go (x ∷ xs) = ap (λ ts. arc_value x ∷ ts) (go xs)

-- a batch may stand by an entry, or as the null batch
pub stands_or_null : (c : Configuration) (view number : ℕ) (set : List (ℕ × ViewChangeData)) (text digest : List ℕ) (supported null : Bool) → are_for view set c ≡ true → digest ≡ sha256 text
    → supported ≡ stands_by_entry c set number digest set → null ≡ is_null text → (supported || (null && may_be_null c set number)) ≡ may_stand c view set number text
stands_or_null c view number set text digest supported null fit named by is =
    ap₂ (λ a b. a || (b && may_be_null c set number)) (by ∙ (ap (λ d. stands_by_entry c set number d set) named ∙ sym (entries_decide c view number (sha256 text) set fit))) is

-- which of the three decides
pub first_decides : (a b m : Bool) → a ≡ true → a ≡ (a || (b && m))
first_decides true b m e = refl
first_decides false b m e = absurd cc

pub last_decides : (a b m : Bool) → a ≡ false → b ≡ true → m ≡ (a || (b && m))
last_decides false true m e f = refl
last_decides true b m e f = absurd cc
last_decides false false m e f = absurd cc

pub none_decides : (a b m : Bool) → a ≡ false → b ≡ false → b ≡ (a || (b && m))
none_decides false false m e f = refl
none_decides true b m e f = absurd cc
none_decides false true m e f = absurd cc

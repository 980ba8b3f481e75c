-- The history of events, and the beginnings of it that were seen.
use Rattle.std.proofs.Common.{◌≡◌, ℕ, zero, suc, ◌≤◌, Bool, true, false, cond, List, [], ◌∷◌, ◌++◌, length, drop, slice_get, Some, refl, ap, sym, ◌∙◌, subst, arith, append_assoc, ⊎_elim}
use Rattle.std.specs.Prelude.{slice_set}
use Rattle.std.specs.List.{list_any}
use Rattle.std.proofs.lemmas.List.{append-nil}
use Rattle.std.proofs.lemmas.Bool.Decides.{eqb_tells}
use Rattle.protocol.specs.System.Trace.{Entry, history_of}
use Rattle.journal.specs.Comparing.{ordering_of}
use Rattle.journal.specs.Histories.{IsEventOf}
use Rattle.protocol.specs.System.Reads.{orders}
use Rattle.journal.specs.Ties.{entries_in, Kind, AreLast, Knot, IsTied, SeenReachesLast, SeenShowsAll, AddsEvent, TiesLonger}
use Rattle.journal.proofs.Events.{own_event, other_event, history_append, ordering_append, other_ordering, own_ordering, no_ordering}

in_append : (xs ys : List (List Entry)) → entries_in (xs ++ ys) ≡ entries_in xs ++ entries_in ys
in_append [] ys = refl
in_append (x ∷ xs) ys = ap (λ (l : List Entry). x ++ l) (in_append xs ys) ∙ sym (append_assoc x (entries_in xs) (entries_in ys))

in_last : (xs : List (List Entry)) (event : List Entry) → entries_in (xs ++ event ∷ []) ≡ entries_in xs ++ event
in_last xs event = in_append xs (event ∷ []) ∙ ap (λ (l : List Entry). entries_in xs ++ l) (append-nil event)

back_none : (xs ys : List Entry) → xs ++ ys ≡ [] → ys ≡ []
back_none [] ys h = h
back_none (x ∷ xs) ys h = absurd (cc h)

drop_all : (xs : List (List Entry)) → drop (length xs) xs ≡ []
drop_all [] = refl
drop_all (x ∷ xs) = drop_all xs

drop_none : (k : ℕ) (xs : List (List Entry)) → xs ≡ [] → drop k xs ≡ []
drop_none zero xs h = h
drop_none (suc k) [] h = refl
drop_none (suc k) (x ∷ xs) h = absurd (cc h)

set_there : (xs : List ℕ) (i n m : ℕ) → slice_get (slice_set xs i n) i ≡ Some m → m ≡ n
set_there [] i n m h = absurd cc
set_there (x ∷ xs) zero n m h = cc
set_there (x ∷ xs) (suc i) n m h = set_there xs i n m h

set_other : (xs : List ℕ) (i j n : ℕ) → (i ≡ j → ⊥) → slice_get (slice_set xs i n) j ≡ slice_get xs j
set_other [] i j n apart = refl
set_other (x ∷ xs) zero zero n apart = absurd (apart refl)
set_other (x ∷ xs) zero (suc j) n apart = refl
set_other (x ∷ xs) (suc i) zero n apart = refl
set_other (x ∷ xs) (suc i) (suc j) n apart = set_other xs i j n (λ e. apart (ap suc e))

-- ---- of each kind of entries

module _ (of : Kind) (none : (p : ℕ) → of p [] ≡ []) (app : (p : ℕ) (xs ys : List Entry) → of p (xs ++ ys) ≡ of p xs ++ of p ys) where
  -- the rest after a beginning, if the party has nothing after its last event
  rest_none : (p k : ℕ) (xs ys : List (List Entry)) → k ≤ length xs → of p (entries_in (drop k (xs ++ ys))) ≡ [] → of p (entries_in ys) ≡ []
  rest_none p zero xs ys le h =
      back_none (of p (entries_in xs)) (of p (entries_in ys)) (sym (app p (entries_in xs) (entries_in ys)) ∙ (ap (of p) (sym (in_append xs ys)) ∙ h))
  rest_none p (suc k) [] ys le h = absurd (omega arith)
  rest_none p (suc k) (x ∷ xs) ys le h = rest_none p k xs ys (omega arith) h

  -- a beginning up to the party's last event has all of the party's entries
  pub seen_whole : (events seen : List (List Entry)) (lasts : List ℕ) (p : ℕ) → AreLast of events lasts → SeenReachesLast seen events (slice_get lasts p) → of p (entries_in events) ≡ of p (entries_in seen)
  seen_whole events seen lasts p last reach =
      let none0 : of p (entries_in (drop reach.count events)) ≡ [] = last p reach.count reach.count_is in
      let none1 : of p (entries_in (drop reach.count (seen ++ reach.begins.0))) ≡ [] = subst (λ (l : List (List Entry)). of p (entries_in (drop reach.count l)) ≡ []) (sym reach.begins.1) none0 in
      let rest : of p (entries_in reach.begins.0) ≡ [] = rest_none p reach.count seen reach.begins.0 reach.few none1 in
      ap (λ (l : List (List Entry)). of p (entries_in l)) (sym reach.begins.1)
      ∙ (ap (of p) (in_append seen reach.begins.0)
      ∙ (app p (entries_in seen) (entries_in reach.begins.0)
      ∙ (ap (λ (l : List Entry). of p (entries_in seen) ++ l) rest ∙ append-nil (of p (entries_in seen)))))

  -- after an event without entries of the kind, the last one stays the last
  last_stays : (p k : ℕ) (events : List (List Entry)) (event : List Entry) → of p event ≡ [] → of p (entries_in (drop k events)) ≡ [] → of p (entries_in (drop k (events ++ event ∷ []))) ≡ []
  last_stays p zero events event nothing h =
      ap (of p) (in_last events event) ∙ (app p (entries_in events) event ∙ (ap (λ (l : List Entry). l ++ of p event) h ∙ nothing))
  last_stays p (suc k) [] event nothing h = ap (λ (l : List (List Entry)). of p (entries_in l)) (drop_none k [] refl) ∙ none p
  last_stays p (suc k) (x ∷ events) event nothing h = last_stays p k events event nothing h

  pub lasts_stay : (events : List (List Entry)) (event : List Entry) (lasts : List ℕ) → ((q : ℕ) → of q event ≡ []) → AreLast of events lasts → AreLast of (events ++ event ∷ []) lasts
  lasts_stay events event lasts nothing h q last at = last_stays q last events event (nothing q) (h q last at)

  pub lasts_set : (p : ℕ) (events longer : List (List Entry)) (event : List Entry) (lasts : List ℕ) → longer ≡ events ++ event ∷ [] → ((q : ℕ) → (p ≡ q → ⊥) → of q event ≡ []) → AreLast of events lasts
      → AreLast of longer (slice_set lasts p (length longer))
  lasts_set p events longer event lasts is nothing h q last at =
      ⊎_elim
      (λ a.
      let there : last ≡ length longer = set_there lasts p (length longer) last (subst (λ (r : ℕ). slice_get (slice_set lasts p (length longer)) r ≡ Some last) (sym a.1) at) in
      ap (λ (n : ℕ). of q (entries_in (drop n longer))) there ∙ (ap (λ (l : List (List Entry)). of q (entries_in l)) (drop_all longer) ∙ none q))
      (λ a.
      let old : slice_get lasts q ≡ Some last = sym (set_other lasts p q (length longer) a.1) ∙ at in
      ap (λ (l : List (List Entry)). of q (entries_in (drop last l))) is ∙ last_stays q last events event (nothing q a.1) (h q last old))
      (eqb_tells p q)

-- ---- both kinds

nothing_of : (p : ℕ) → history_of p [] ≡ []
nothing_of p = refl

no_ordering_of : (p : ℕ) → ordering_of p [] ≡ []
no_ordering_of p = refl

pub shows_history : (knot : Knot) (p : ℕ) (seen : List (List Entry)) → SeenReachesLast seen knot.events (slice_get knot.lasts p) → SeenShowsAll history_of (Some knot) (Some seen) p
shows_history knot p seen reach entries history tied marks =
    ap (history_of p) (sym tied.entries_are) ∙ (seen_whole history_of nothing_of history_append knot.events seen knot.lasts p tied.lasts reach ∙ marks)

pub shows_ordering : (knot : Knot) (p : ℕ) (seen : List (List Entry)) → SeenReachesLast seen knot.events (slice_get knot.ordered p) → SeenShowsAll ordering_of (Some knot) (Some seen) p
shows_ordering knot p seen reach entries history tied marks =
    ap (ordering_of p) (sym tied.entries_are) ∙ (seen_whole ordering_of no_ordering_of ordering_append knot.events seen knot.ordered p tied.ordered reach ∙ marks)

no_ordering_in : (p : ℕ) (event : List Entry) → IsEventOf p event → list_any orders event ≡ false → (q : ℕ) → ordering_of q event ≡ []
no_ordering_in p event is nothing q =
    ⊎_elim
    (λ a. subst (λ (r : ℕ). ordering_of r event ≡ []) a.1 (own_ordering p event is ∙ no_ordering event nothing))
    (λ a. other_ordering p q event a.1 is)
    (eqb_tells p q)

ordered_longer : (p : ℕ) (events longer : List (List Entry)) (event : List Entry) (lasts : List ℕ) (b : Bool) → list_any orders event ≡ b → longer ≡ events ++ event ∷ [] → IsEventOf p event
    → AreLast ordering_of events lasts → AreLast ordering_of longer (cond b (slice_set lasts p (length longer)) lasts)
ordered_longer p events longer event lasts true any is of_p h =
    lasts_set ordering_of no_ordering_of ordering_append p events longer event lasts is (λ q apart. other_ordering p q event apart of_p) h
ordered_longer p events longer event lasts false any is of_p h =
    subst (λ (l : List (List Entry)). AreLast ordering_of l lasts) (sym is) (lasts_stay ordering_of no_ordering_of ordering_append events event lasts (no_ordering_in p event of_p any) h)

-- a tie that an event is added to is that of the longer journal
pub ties_longer : (p : ℕ) (event entries : List Entry) (old new : Knot) → AddsEvent p event old new → IsEventOf p event → IsTied old entries → TiesLonger p event entries (Some new) (Some new.events)
ties_longer p event entries old new adds is tied = record {
  ties = record {
    entries_are = all;
    lasts = subst (AreLast history_of new.events) (sym adds.lasts)
        (lasts_set history_of nothing_of history_append p old.events new.events event old.lasts adds.events (λ q apart. other_event p q event apart is) tied.lasts);
    ordered = subst (AreLast ordering_of new.events) (sym adds.ordered)
        (ordered_longer p old.events new.events event old.ordered (list_any orders event) refl adds.events is tied.ordered);
  };
  history = ap (history_of p) all ∙ (history_append p entries event ∙ ap (λ (l : List Entry). history_of p entries ++ l) (own_event p event is));
  ordering = ap (ordering_of p) all ∙ (ordering_append p entries event ∙ ap (λ (l : List Entry). ordering_of p entries ++ l) (own_ordering p event is));
}
  where
    all : entries_in new.events ≡ entries ++ event
    all = ap entries_in adds.events ∙ (in_last old.events event ∙ ap (λ (l : List Entry). l ++ event) tied.entries_are)

-- Which new views a set of view changes allows, as a property of the set alone (Castro and Liskov, Practical Byzantine
-- fault tolerance and proactive recovery, TOCS 2002, on view changes). A new view may be selected if this holds of the
-- view changes that it carries, and all of those are signed.
use Rattle.std.specs.Prelude.{◌≡◌, ℕ, suc, ◌+◌, ◌-◌, ◌<◌, Bool, true, false, ◌&&◌, ◌||◌, not, List, [], ◌∷◌, length, max, ◌==◌, nat_lt, if◌then◌else◌, bytes_eq, ⊤}
use Rattle.std.specs.List.{list_all, list_any}
use Rattle.protocol.specs.System.Configuration.{Configuration, span}
use Rattle.protocol.specs.System.Trace.{Has}
use Rattle.protocol.specs.Replica.Selection.{is_quorum, count_in, ascending, is_within, is_start, may_stand_at, may_all_stand, largest_of, null_batch}
use Rattle.sha2.specs.Sha256.{sha256}
use Rattle.wire_format.specs.Lists.{Each}
use Rattle.wire_format.specs.Spelling.{bytes_before}
use Rattle.wire_format.specs.Messages.{ViewChangeData, BatchEntryData as BatchEntry}

-- ---- the rules

-- each view change is for the view and within its bounds
abbrev pub are_for : ℕ → List (ℕ × ViewChangeData) → Configuration → Bool
are_for view set c = list_all (λ x. (x.1.view == view) && is_within c x.1) set

-- the view changes are of a quorum of different replicas, in ascending order, each for the view and within its bounds
abbrev pub is_set_for : Configuration → ℕ → List (ℕ × ViewChangeData) → Bool
is_set_for c view set = is_quorum c (count_in c (λ vc. true) set) && ascending set && are_for view set c

-- how many batches have to follow a start
abbrev pub how_many_from : Configuration → List (ℕ × ViewChangeData) → ℕ → ℕ
how_many_from c set start = max (largest_of (start + span c) set) start - start

-- the start and the batches satisfy the rules over the set
abbrev pub meets : Configuration → ℕ → List (ℕ × ViewChangeData) → ℕ → List ℕ → List (List ℕ) → Bool
meets c view set start root batches =
    is_start c set start root && (length batches == how_many_from c set start)
    && may_all_stand c view set (suc start) batches

-- ---- the choice at one number

-- an entry for this number and digest
abbrev pub is_entry_for : ℕ → List ℕ → BatchEntry → Bool
is_entry_for number digest batch_entry = (batch_entry.number == number) && bytes_eq batch_entry.digest digest

-- an entry by whose view the digest may stand at the number
abbrev pub is_entry_by : Configuration → List (ℕ × ViewChangeData) → ℕ → List ℕ → BatchEntry → Bool
is_entry_by c set number digest batch_entry =
    is_entry_for number digest batch_entry && may_stand_at c set number digest batch_entry.view

-- one of these view changes pre-prepared the digest for the number, and the digest may stand by the view of that entry
abbrev pub stands_by_entry : Configuration → List (ℕ × ViewChangeData) → ℕ → List ℕ → List (ℕ × ViewChangeData)
    → Bool
stands_by_entry c set number digest some =
    list_any (λ x. list_any (is_entry_by c set number digest) x.1.pre_prepared) some

-- the latest view of such an entry, 0 if there is none
abbrev pub latest_in : Configuration → List (ℕ × ViewChangeData) → ℕ → List ℕ → List BatchEntry → ℕ
latest_in c set number digest [] = 0
latest_in c set number digest (batch_entry ∷ batch_entries) =
    if is_entry_by c set number digest batch_entry then
    max batch_entry.view (latest_in c set number digest batch_entries) else
    latest_in c set number digest batch_entries

abbrev pub latest_of : Configuration → List (ℕ × ViewChangeData) → ℕ → List ℕ → List (ℕ × ViewChangeData) → ℕ
latest_of c set number digest [] = 0
latest_of c set number digest (x ∷ xs) =
    max (latest_in c set number digest x.1.pre_prepared) (latest_of c set number digest xs)

-- one of the view changes prepared the digest for the number
abbrev pub is_prepared_in : List (ℕ × ViewChangeData) → ℕ → List ℕ → Bool
is_prepared_in set number digest = list_any (λ x. list_any (is_entry_for number digest) x.1.prepared) set

-- of two digests a prepared one goes first, else the lesser one
abbrev pub precedes : List (ℕ × ViewChangeData) → ℕ → List ℕ → List ℕ → Bool
precedes set number d e =
    if is_prepared_in set number d then
    not (is_prepared_in set number e) || bytes_before d e else
    not (is_prepared_in set number e) && bytes_before d e

-- before that, the one of the latest view
abbrev pub outranks : Configuration → List (ℕ × ViewChangeData) → ℕ → List ℕ → List ℕ → Bool
outranks c set number d e =
    if nat_lt (latest_of c set number e set) (latest_of c set number d set) then true else
    if nat_lt (latest_of c set number d set) (latest_of c set number e set) then false else
    precedes set number d e

-- Of two digests the one that may stand by an entry goes first. Of two such digests, that of the latest view goes
-- first, then a prepared one, then the lesser one.
abbrev pub goes_before : Configuration → List (ℕ × ViewChangeData) → ℕ → List ℕ → List ℕ → Bool
goes_before c set number d e =
    stands_by_entry c set number d set && (not (stands_by_entry c set number e set) || outranks c set number d e)

-- ---- the selection

-- each view change of the one set is in the other
abbrev pub IsPartOfSet : List (ℕ × ViewChangeData) → List (ℕ × ViewChangeData) → Type 0
IsPartOfSet small large = Each (λ x. Has (λ y. y ≡ x) large) small

-- the batch is one of these, or the null batch, which is always available
abbrev pub IsAvailable : List (List ℕ) → List ℕ → Type 0
IsAvailable texts batch = Has (λ text. text ≡ batch) (null_batch ∷ texts)

abbrev pub AreFrom : List (List ℕ) → List (List ℕ) → Type 0
AreFrom texts batches = Each (IsAvailable texts) batches

-- No such batches satisfy the rules from this start.
abbrev pub NothingFrom : Configuration → ℕ → List (ℕ × ViewChangeData) → List (List ℕ) → ℕ → List ℕ → Type 0
NothingFrom c view set texts start root =
    (batches : List (List ℕ)) → AreFrom texts batches → meets c view set start root batches ≡ false

-- no other of the batches goes before this one at the number
abbrev pub IsFirstChoice : Configuration → List (ℕ × ViewChangeData) → List (List ℕ) → ℕ → List ℕ → Type 0
IsFirstChoice c set texts number batch =
    Each (λ other. goes_before c set number (sha256 other) (sha256 batch) ≡ false) (null_batch ∷ texts)

-- each at its number, from the given one on
abbrev pub AreFirstChoices : Configuration → List (ℕ × ViewChangeData) → List (List ℕ) → ℕ → List (List ℕ) → Type 0
AreFirstChoices c set texts number [] = ⊤
AreFirstChoices c set texts number (batch ∷ batches) =
    IsFirstChoice c set texts number batch × AreFirstChoices c set texts (suc number) batches

-- A start and batches, out of these, that satisfy the rules. It is the greatest start from which any do, and at each
-- number the first batch in order.
pub record SelectsNewView (c : Configuration) (view : ℕ) (set : List (ℕ × ViewChangeData)) (texts : List (List ℕ))
    (start : ℕ) (root : List ℕ) (batches : List (List ℕ)) : Type 0 where
  pub meets : meets c view set start root batches ≡ true
  pub from : AreFrom texts batches
  pub first : AreFirstChoices c set texts (suc start) batches
  pub greatest : (above : ℕ) (other : List ℕ) → start < above → NothingFrom c view set texts above other

-- No selection exists over the set, nor over any part of the set.
abbrev pub NothingSelects : Configuration → ℕ → List (ℕ × ViewChangeData) → List (List ℕ) → Type 0
NothingSelects c view set texts =
    (part : List (ℕ × ViewChangeData)) (start : ℕ) (root : List ℕ) (batches : List (List ℕ))
    → IsPartOfSet part set → ascending part ≡ true → AreFrom texts batches
    → meets c view part start root batches ≡ false

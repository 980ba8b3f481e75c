-- The definitions refuse wrong view changes and calls.
use Rattle.std.specs.List.{AllPairs, slice_index_or}
use Rattle.std.proofs.Common.{◌≡◌, ◌≢◌, ◌^◌, ◌+◌, ℕ, ◌≤◌, ◌<◌, inl, inr, true, ◌&&◌, List, [], ◌∷◌, ◌++◌, slice_get, sym, ◌∙◌, subst, arith, Some, None}
use Rattle.std.specs.Prelude.{nat_le, nat_lt}
use Rattle.std.proofs.lemmas.Bool.{and_parts, leb-true, ltb-true}
use Rattle.std.proofs.lemmas.Option.{get_or_from_slice_get, slice_get_within}
use Rattle.tuple_codec.specs.Operations.{Operation}
use Rattle.protocol.specs.System.Configuration.{Configuration, span, is_number}
use Rattle.wire_format.specs.Messages.{ViewChangeData, BatchEntryData as BatchEntry, view_change as ViewChange}
use Rattle.protocol.specs.System.Trace.{Entry, Always}
use Rattle.protocol.specs.System.Trace.Entry.{Invoke}
use Rattle.protocol.specs.Replica.Certificates.{low, is_in_marks}
use Rattle.protocol.specs.Replica.RightReplica.{MayViewChange, IsNewViewChange}
use Rattle.protocol.specs.Client.RightClient.{MayInput, IsClient}
use Rattle.evidence.specs.RefusedChanges.{SendsNewChange, ChangesAboveView, ChangesAboveEarlier, ChangesToNumbers, IsInMarks, BatchEntriesPreparedInMarks, BatchEntriesProposedInMarks, BatchEntriesAscend, BatchEntriesDiffer, ChangesAgainLast, NoCallWhileOpen, CallsCount, CallsOperations}
use Rattle.evidence.proofs.Refusing.{above_target}
use Rattle.evidence.proofs.RefusingRuns.{says_may}
use Rattle.protocol.proofs.Words.Reacting.{CallsNext, calls_next}

-- ---- view changes

pub new_change : (c : Configuration) (me : ℕ) (vc : ViewChangeData) (bytes : List ℕ) (past : List Entry) (sends : SendsNewChange c me vc bytes past) → IsNewViewChange c me past sends.is_safe.1.0 vc
new_change c me vc bytes past sends = go (says_may c me bytes (record { sender = me; message = ViewChange vc }) past sends.is_safe sends.says)
  where
    go : MayViewChange c me past sends.is_safe.1.0 bytes vc → IsNewViewChange c me past sends.is_safe.1.0 vc
    go (inl change) = change
    go (inr again) = absurd (sends.is_new again.2)

pub changes_above_view : ChangesAboveView
changes_above_view c me vc bytes past sends = let change = new_change c me vc bytes past sends in change.above

pub changes_above_earlier : ChangesAboveEarlier
changes_above_earlier c me vc earlier bytes past sends before =
    let change = new_change c me vc bytes past sends in
    let above = change.newer in
    let sent = above_target me earlier past before in
    omega arith

pub changes_to_numbers : ChangesToNumbers
changes_to_numbers c me vc bytes past sends =
    ltb-true vc.view (2 ^ 48) (new_change c me vc bytes past sends).is_view

in_marks : (c : Configuration) (me : ℕ) (past : List Entry) (batch_entry : BatchEntry) → is_in_marks c (low c me past) batch_entry.number ≡ true → IsInMarks c me past batch_entry
in_marks c me past batch_entry h =
    let p = and_parts (nat_lt (low c me past) batch_entry.number && nat_le batch_entry.number (low c me past + span c)) (is_number batch_entry.number) h in
    let q = and_parts (nat_lt (low c me past) batch_entry.number) (nat_le batch_entry.number (low c me past + span c)) p.0 in
    (ltb-true (low c me past) batch_entry.number q.0, leb-true batch_entry.number (low c me past + span c) q.1, ltb-true batch_entry.number (2 ^ 48) p.1)

pub batch_entries_prepared_in_marks : BatchEntriesPreparedInMarks
batch_entries_prepared_in_marks c me vc batch_entry bytes past sends has =
    in_marks c me past batch_entry ((new_change c me vc bytes past sends).prepared.listed batch_entry has).1

pub batch_entries_proposed_in_marks : BatchEntriesProposedInMarks
batch_entries_proposed_in_marks c me vc batch_entry bytes past sends has =
    in_marks c me past batch_entry ((new_change c me vc bytes past sends).proposed.listed batch_entry has).1

pairs_at : {A : Type 0} (R : A → A → Type 0) (xs : List A) (i j : ℕ) (a b : A) → AllPairs R xs → i < j → slice_get xs i ≡ Some a → slice_get xs j ≡ Some b → R a b
pairs_at R xs i j a b h less first second =
    subst (λ x. R x b) (get_or_from_slice_get xs i a a first)
    (subst (λ y. R (slice_index_or xs i a) y) (get_or_from_slice_get xs j b a second) (h i j a less (slice_get_within xs j b second)))

pub batch_entries_ascend : BatchEntriesAscend
batch_entries_ascend c me i j vc a b bytes past sends less first second =
    let change = new_change c me vc bytes past sends in
    pairs_at (λ (x : BatchEntry) (y : BatchEntry). x.number < y.number) vc.prepared i j a b change.prepared.ascending less first second

pub batch_entries_differ : BatchEntriesDiffer
batch_entries_differ c me i j vc a b bytes past sends less first second =
    let change = new_change c me vc bytes past sends in
    pairs_at (λ (x : BatchEntry) (y : BatchEntry). (x.number ≡ y.number) → x.digest ≢ y.digest) vc.pre_prepared i j a b change.proposed.differ less first second

pub changes_again_last : ChangesAgainLast
changes_again_last c me vc earlier bytes past says before right sent = go (says_may c me bytes (record { sender = me; message = ViewChange vc }) past right says)
  where
    go : MayViewChange c me past right.1.0 bytes vc → earlier.view ≤ vc.view
    go (inl change) = let above = change.newer in omega (arith, above_target me earlier past sent)
    go (inr again) = let last = again.1 in omega (arith, above_target me earlier past sent)

-- ---- calls

called_by : (c : Configuration) (me client timestamp : ℕ) (op : Operation) (later past : List Entry)
    → Always (CallsNext 0) (later ++ Invoke client timestamp op ∷ past) → MayInput 0 past (Invoke client timestamp op)
called_by c me client timestamp op [] past next = next.0
called_by c me client timestamp op (e ∷ later) past next = called_by c me client timestamp op later past next.1

called_next : (c : Configuration) (me client timestamp : ℕ) (op : Operation) (later past : List Entry)
    → IsClient c me (later ++ Invoke client timestamp op ∷ past) → MayInput 0 past (Invoke client timestamp op)
called_next c me client timestamp op later past h =
    called_by c me client timestamp op later past (calls_next c me 0 (later ++ Invoke client timestamp op ∷ past) h)

pub no_call_while_open : NoCallWhileOpen
no_call_while_open c me client timestamp call op later past opened h =
    let none = (called_next c me client timestamp op later past h).1 in
    absurd (let bad : None ≡ Some call = sym none ∙ opened in cc)

pub calls_operations : CallsOperations
calls_operations c me client timestamp op later past h = (called_next c me client timestamp op later past h).2

pub calls_count : CallsCount
calls_count c me client timestamp op later past h = (called_next c me client timestamp op later past h).0

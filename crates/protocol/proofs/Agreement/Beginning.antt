-- Without view changes no new view is taken.
use Rattle.std.proofs.Common.{◌≡◌, ℕ, ◌+◌, ◌*◌, ◌<◌, inl, inr, Bool, true, false, not, cond, List, [], ◌∷◌, Option, Some, None, refl, ap, arith}
use Rattle.std.proofs.lemmas.Bool.{and_from, leb-true, lt-ltb}
use Rattle.quorum.proofs.Counting.{one_is_correct, count_members}
use Rattle.protocol.specs.System.Configuration.{Configuration, replicas, is_replica, is_faulty_replica, is_correct_replica}
use Rattle.wire_format.specs.Messages.{NewViewData, ViewChangeData}
use Rattle.protocol.specs.System.Trace.{Entry, party_of, history_of, Once, SendsBody}
use Rattle.protocol.specs.System.Trace.Entry.{Sent}
use Rattle.protocol.specs.Replica.Selection.{may_select, changes_of, change_by, count_in, passes_by}
use Rattle.protocol.specs.Replica.Certificates.{view, view_after, target, is_later, new_view_in}
use Rattle.protocol.specs.Laws.Histories.{TakesOrSendsNewView, NoneBegins, FirstViewStays}
use Rattle.protocol.proofs.Words.Temporal.{once_weaker, once_stays, once_in_trace}
use Rattle.protocol.proofs.Words.Linking.{Speaks}
use Rattle.protocol.proofs.Words.Lists.{passes_change}
use Rattle.protocol.proofs.Agreement.Marks.{selects, selected_in, takes}
use Rattle.protocol.proofs.Agreement.Signed.{changing, change_was_said}

pub none_begins : NoneBegins
none_begins c setting trace right unforged none p new correct begins = none signer.0 change.0 is_right
    (once_weaker (λ past e. (party_of e ≡ signer.0) × Speaks (changing signer.0 change.0) (history_of signer.0 past) e) (SendsBody (changing signer.0 change.0)) sends trace
    (once_in_trace (Speaks (changing signer.0 change.0)) signer.0 trace (change_was_said c trace p signer.0 new change.0 right unforged correct is_right begins change.1)))
  where
    selected : may_select c new ≡ true
    selected = once_stays (λ past. may_select c new ≡ true) (λ e past k. k) (history_of p trace)
        (once_weaker (TakesOrSendsNewView c new) (λ past e. may_select c new ≡ true) (λ past e t. selected_in c e new (takes c 0 past e new t).brought) (history_of p trace) begins)

    signer : (s : ℕ) × (s < replicas c) × (is_faulty_replica c s ≡ false) × (passes_by (λ vc. true) (changes_of c new) s ≡ true)
    signer =
        let enough = leb-true (2 * c.faults + 1) (count_in c (λ vc. true) (changes_of c new)) (selects c new selected).enough in
        let members = count_members c.faulty_replicas (3 * c.faults + 1) in
        let few = setting.few in
        one_is_correct c.faults (replicas c) (is_faulty_replica c) (passes_by (λ vc. true) (changes_of c new)) (omega arith) (omega arith)

    is_right : is_correct_replica c signer.0 ≡ true
    is_right = and_from (is_replica c signer.0) (not (is_faulty_replica c signer.0)) (lt-ltb signer.0 (replicas c) signer.1) (ap not signer.2)

    change : (vc : ViewChangeData) × (change_by (changes_of c new) signer.0 ≡ Some vc) × (true ≡ true)
    change = passes_change (λ vc. true) (changes_of c new) signer.0 signer.3

    sends : (past : List Entry) (e : Entry) → (party_of e ≡ signer.0) × Speaks (changing signer.0 change.0) (history_of signer.0 past) e → SendsBody (changing signer.0 change.0) past e
    sends past (Sent q bytes) h = h
    sends past _ h = absurd h.1

-- a replica leaves a view only if it takes a new view
not_left : (c : Configuration) (xs : List Entry) → ((new : NewViewData) → Once (TakesOrSendsNewView c new) xs → ⊥) → view c xs ≡ 0
unfolding view
not_left c [] never = refl
not_left c (e ∷ past) never = go (new_view_in c e) refl (not_left c past (λ new h. never new (inr h)))
  where
    go : (o : Option NewViewData) → new_view_in c e ≡ o → view c past ≡ 0 → view_after (view c past) (target past) o ≡ 0
    go None is h = h
    go (Some new) is h = pick (is_later (view c past) (target past) new) refl
      where
        pick : (b : Bool) → is_later (view c past) (target past) new ≡ b → cond b new.view (view c past) ≡ 0
        pick true later = absurd (never new (inl (rw is (rw later refl))))
        pick false later = h

pub first_view_stays : FirstViewStays
first_view_stays c setting trace right unforged none p correct = not_left c (history_of p trace) (λ new h. none_begins c setting trace right unforged none p new correct h)

-- The definitions accept a backup that takes a new view in the beginning and prepares its batch.
use Rattle.std.proofs.Common.{◌≡◌, ◌≢◌, ℕ, zero, suc, ◌-◌, ◌≤◌, max, inl, inr, Bool, true, false, not, cond, ◌&&◌, ◌||◌, List, [], ◌∷◌, slice_get, refl, sym, ap, ◌∙◌, subst, arith, Option, Some, None, eqb-true}
use Rattle.std.specs.Prelude.{◌==◌, nat_lt, nat_le, option_and_then}
use Rattle.std.specs.Option.{option_map_or}
use Rattle.std.proofs.lemmas.Bool.{and_parts, ltb-true}
use Rattle.sha2.specs.Sha256.{sha256}
use Rattle.tuple_tree.proofs.Readers.{guard_holds}
use Rattle.quorum.specs.Quorum.{count_below, member}
use Rattle.std.specs.Bool.{then_some}
use Rattle.quorum.specs.Votes.{or_else, has_digest}
use Rattle.quorum.proofs.Counting.{count_mono, count_members}
use Rattle.wire_format.specs.Messages.{BodyData as Body, AuthenticatorData as Authenticator, NewViewData, CheckpointEntryData as CheckpointEntry, macs, signature, pre_prepare as PrePrepare, prepare as Prepare, new_view as NewView, view_change as ViewChange}
use Rattle.protocol.specs.System.Configuration.{Configuration, primary, members, signers}
use Rattle.signing.specs.AuthenticBody.{authentic, signed_body}
use Rattle.wire_format.specs.Words.{receivers_of}
use Rattle.wire.proofs.Skipping.{none_chosen}
use Rattle.protocol.specs.System.Trace.{Entry, Has}
use Rattle.protocol.specs.System.Trace.Entry.{Got, Sent}
use Rattle.protocol.specs.Replica.Selection.{may_select, change_in}
use Rattle.protocol.specs.Replica.Certificates.{view, view_after, target, is_later, new_view_in, new_view_from, taken, change_from, is_active_in, checkpoint_from, checkpoints_of, is_stable, stable_at, started_at, low, is_in_marks, counts_at, logged, assigned_proposal, assigned_batch, prepare_of, prepare_from, vote_in, Prepared}
use Rattle.protocol.specs.Replica.RightReplica.{first_point, others, IsAddressed, Executes, MaySend, IsStep}
use Rattle.protocol.specs.Replica.Owed.{Owes, IsReplica, NumbersOnce, SendsMessage}
use Rattle.evidence.specs.Examples.{four}
use Rattle.evidence.specs.ExamplesOfChanges.{holding_view, IsForOthers, NewViewsAreTaken}
use Rattle.protocol.proofs.Words.Moving.{no_reason}
use Rattle.protocol.proofs.Words.Options.{some_injective}
use Rattle.protocol.proofs.Words.Plain.{low_same}
use Rattle.evidence.proofs.Knowing.{signed_is_heard}
use Rattle.evidence.proofs.Selecting.{prepared_is_selected}
use Rattle.evidence.proofs.JoiningChangesOwing.{Due, owes, none_logged, brings_no_checkpoint, same_checkpoints, logs_assigned, logs_nothing, moves_nothing}
use Rattle.protocol.proofs.Words.Outgoing.{unsigned_have_no_leaf}
use Rattle.protocol.proofs.Agreement.Checkpoints.{no_checkpoints}

prepare_next : (c : Configuration) (me : ℕ) (past : List Entry) (e : Entry) (v i s : ℕ) → prepare_of c me (e ∷ past) v i s ≡ or_else (prepare_of c me past v i s) (vote_in c me past e (prepare_from c s v i) v i)
unfolding prepare_of
prepare_next c me past e v i s = refl

none_prepared : (c : Configuration) (me v i s : ℕ) → prepare_of c me [] v i s ≡ None
unfolding prepare_of
none_prepared c me v i s = refl

if_digest : (b : Bool) (digest given : List ℕ) → has_digest digest (then_some b given) ≡ true → b ≡ true
if_digest true digest given h = refl
if_digest false digest given h = absurd cc

only_first : (batch given : List ℕ) (k : ℕ) → slice_get (batch ∷ []) k ≡ Some given → (k ≡ 0) × (batch ≡ given)
only_first batch given zero h = (refl, cc)
only_first batch given (suc k) h = absurd cc

module _ (clients : ℕ) (seed : List ℕ) (me : ℕ) (batch root a b d new_view prepare : List ℕ) where
  abbrev c : Configuration
  c = four clients seed

  abbrev new : NewViewData
  new = holding_view batch root a b d

  abbrev begins : Body
  begins = record { sender = 1; message = NewView new }

  abbrev prepares : Body
  prepares = record { sender = me; message = Prepare 1 1 (sha256 batch) }

  abbrev h1 : List Entry
  h1 = Got me new_view ∷ []

  abbrev now : List Entry
  now = Sent me prepare ∷ h1

  module _ (backup : me ≢ 1) (selected : may_select c new ≡ true) (signed : signed_body (signers c) new_view ≡ Some begins) (x : IsForOthers c me prepares.message prepare) where
    receives : authentic (members c me) me new_view ≡ Some begins
    receives = signed_is_heard c me new_view begins signed (λ is. backup (sym is))

    -- ---- the new view is taken

    brings : new_view_in c (Got me new_view) ≡ Some new
    brings = ap (option_and_then (new_view_from c)) receives ∙ ap (λ (t : Bool). then_some t new) selected

    takes : taken c [] (Got me new_view) ≡ Some new
    unfolding view
    takes = ap (option_and_then (λ (n : NewViewData). then_some (is_later (view c []) (target []) n) n)) brings

    view_is : view c h1 ≡ 1
    unfolding view
    view_is = ap (view_after (view c []) (target [])) brings

    stable_none : stable_at c me [] (Got me new_view) ≡ 0
    stable_none = ap (λ (o : Option (ℕ × CheckpointEntry)). option_map_or (λ (y : ℕ × CheckpointEntry). cond (is_stable c me h1 y.1) y.1.number 0) o 0) (brings_no_checkpoint c (Got me new_view) begins receives tt)

    low_is : low c me h1 ≡ 0
    unfolding low
    low_is =
        ap (λ (n : ℕ). max 0 (max n (max 0 (started_at c [] (Got me new_view))))) stable_none
        ∙ ap (λ (n : ℕ). max 0 (max 0 (max 0 n))) (ap (λ (o : Option NewViewData). option_map_or (λ (n : NewViewData). n.start) o 0) takes)

    active : is_active_in c h1 1 ≡ true
    active = ap (λ (n : ℕ). (n == 1) && nat_le (target h1) 1) view_is

    -- ---- the batch is logged at number 1 in view 1, and no other is

    assigned : (v i : ℕ) → logged c me h1 v i ≡ cond (is_in_marks c 0 i) (assigned_batch v i new) None
    assigned v i =
        logs_assigned c me [] (Got me new_view) begins receives tt v i
        ∙ ap (λ (o : Option (List ℕ)). or_else o (assigned_proposal c me [] (Got me new_view) v i)) (none_logged c me v i)
        ∙ ap (λ (n : ℕ). cond (is_in_marks c n i) (option_and_then (assigned_batch v i) (taken c [] (Got me new_view))) None) low_is
        ∙ ap (λ (o : Option NewViewData). cond (is_in_marks c 0 i) (option_and_then (assigned_batch v i) o) None) takes

    here : logged c me h1 1 1 ≡ Some batch
    here = assigned 1 1

    record IsIt (v i : ℕ) (given : List ℕ) : Type 0 where
      view_one : v ≡ 1
      number_one : i ≡ 1
      batch_is : given ≡ batch

    only : (v i : ℕ) (given : List ℕ) → logged c me h1 v i ≡ Some given → IsIt v i given
    only v i given h =
        let m = guard_holds (is_in_marks c 0 i) (assigned_batch v i new) given (sym (assigned v i) ∙ h) in
        let n = guard_holds ((1 == v) && nat_lt 0 i) (slice_get (batch ∷ []) (i - 0 - 1)) given m.1 in
        let t = and_parts (1 == v) (nat_lt 0 i) n.0 in
        let first = only_first batch given (i - 0 - 1) n.1 in
        let above = ltb-true 0 i t.1 in
        let place = first.0 in
        record { view_one = sym (eqb-true 1 v t.0); number_one = omega arith; batch_is = sym first.1 }

    takes_no_more : taken c h1 (Sent me prepare) ≡ None
    takes_no_more = ap (option_and_then (λ (n : NewViewData). then_some (is_later (view c h1) (target h1) n) n)) (ap (option_and_then (new_view_from c)) x.says)

    logs : (v i : ℕ) → logged c me now v i ≡ logged c me h1 v i
    logs v i = logs_nothing c me h1 (Sent me prepare) prepares x.says tt takes_no_more v i

    -- ---- no backup but this one has prepared it

    votes : (v i s : ℕ) → prepare_of c me now v i s ≡ then_some ((me == s) && (1 == v) && (1 == i) && not (s == primary c v)) (sha256 batch)
    votes v i s =
        prepare_next c me h1 (Sent me prepare) v i s
        ∙ ap (λ (o : Option (List ℕ)). or_else o (vote_in c me h1 (Sent me prepare) (prepare_from c s v i) v i)) before
        ∙ ap (option_and_then (prepare_from c s v i)) x.says
      where
        no_vote : vote_in c me [] (Got me new_view) (prepare_from c s v i) v i ≡ None
        no_vote = none_chosen (counts_at c me [] (Got me new_view) v i) (option_and_then (prepare_from c s v i) (authentic (members c me) me new_view)) (ap (option_and_then (prepare_from c s v i)) receives)

        before : prepare_of c me h1 v i s ≡ None
        before =
            prepare_next c me [] (Got me new_view) v i s
            ∙ ap (λ (o : Option (List ℕ)). or_else o (vote_in c me [] (Got me new_view) (prepare_from c s v i) v i)) (none_prepared c me v i s)
            ∙ no_vote

    own_alone : (v i : ℕ) (digest : List ℕ) (s : ℕ) → has_digest digest (prepare_of c me now v i s) ≡ true → member (me ∷ []) s ≡ true
    own_alone v i digest s h =
        let t = if_digest ((me == s) && (1 == v) && (1 == i) && not (s == primary c v)) digest (sha256 batch) (subst (λ (o : Option (List ℕ)). has_digest digest o ≡ true) (votes v i s) h) in
        let q = and_parts ((me == s) && (1 == v)) (1 == i) (and_parts ((me == s) && (1 == v) && (1 == i)) (not (s == primary c v)) t).0 in
        ap (λ (y : Bool). y || false) (and_parts (me == s) (1 == v) q.0).0

    unprepared : (v i : ℕ) (given : List ℕ) → Prepared c me now v i given → ⊥
    unprepared v i given h =
        let enough : 2 ≤ count_below (λ s. has_digest (sha256 given) (prepare_of c me now v i s)) 4 = h.backups in
        let few = count_mono (λ s. has_digest (sha256 given) (prepare_of c me now v i s)) (member (me ∷ [])) 4 (λ s l is. own_alone v i (sha256 given) s is) in
        let one : count_below (member (me ∷ [])) 4 ≤ 1 = count_members (me ∷ []) 4 in
        absurd (omega arith)

    checks : (s : ℕ) → checkpoints_of c now s ≡ []
    checks s =
        same_checkpoints c h1 (Sent me prepare) prepares x.says tt s
        ∙ same_checkpoints c [] (Got me new_view) begins receives tt s ∙ no_checkpoints c s

    -- ---- what the replica owes

    gives : (v i : ℕ) (given : List ℕ) → IsIt v i given → SendsMessage me (Prepare v i (sha256 given)) (Sent me prepare ∷ [])
    gives v i given it =
        subst (λ (n : ℕ). SendsMessage me (Prepare n i (sha256 given)) (Sent me prepare ∷ [])) (sym it.view_one)
        (subst (λ (n : ℕ). SendsMessage me (Prepare 1 n (sha256 given)) (Sent me prepare ∷ [])) (sym it.number_one)
        (subst (λ (y : List ℕ). SendsMessage me (Prepare 1 1 (sha256 y)) (Sent me prepare ∷ [])) (sym it.batch_is) (inl x.says)))

    none_executed : (k : ℕ) → Has (λ e. Executes k [] e) (Sent me prepare ∷ []) → ⊥
    none_executed k (inl h) = h
    none_executed k (inr h) = h

    numbers_none : NumbersOnce c me h1 (Sent me prepare)
    numbers_none v i given is fresh =
        absurd (let bad : prepares ≡ record { sender = me; message = PrePrepare v i given } = some_injective prepares (record { sender = me; message = PrePrepare v i given }) (sym x.says ∙ is) in cc)

    due : Due c me [] new_view (Sent me prepare ∷ []) now
    due = record {
      body = begins;
      receives = receives;
      of_change = tt;
      checkpoints_are = checks;
      low_is = low_same c me h1 (Sent me prepare) (ap (option_and_then checkpoint_from) x.says) refl (ap (option_and_then (new_view_from c)) x.says) ∙ low_is;
      unprepared = unprepared;
      numbers_once = (numbers_none, tt);
      prepares = λ v i given none some active_there other. gives v i given (only v i given (sym (logs v i) ∙ some));
      none_executed = none_executed;
      view_changes = λ v moves. absurd (no_reason c me [] new_view [] v (λ s vc asks. absurd (let bad : None ≡ Some (s, vc) = ap change_in (some_injective begins (record { sender = s; message = ViewChange vc }) (sym receives ∙ asks)) in cc)) moves);
      no_view = λ other can. let left = can.left in let sent : target now ≡ 0 = ap (λ (o : Option Body). max (option_map_or change_from o 0) 0) x.says in omega (arith, left, sent);
      dropped = λ drops. absurd (drops begins receives takes);
    }

    owes_it : Owes c me [] (Got me new_view) (Sent me prepare ∷ []) now first_point first_point
    owes_it = owes clients seed me [] new_view (Sent me prepare ∷ []) now due

    -- ---- what the replica sends

    addressed : (authenticator : Authenticator) → receivers_of authenticator ≡ others c me → IsAddressed c me h1 prepares.message authenticator
    addressed (macs entries) h = h
    addressed (signature s) h = tt

    may : MaySend c me h1 first_point (Sent me prepare) prepare
    may = record {
      body = prepares;
      says = x.says;
      own = refl;
      seen = tt;
      allowed = record { is_backup = λ is. backup (sym is); active = active; batch = batch; is_logged = here; digest_is = refl };
      is_sealed = λ frame is. let s = x.is_sealed frame is in (s.0, addressed frame.authenticator s.1);
      leaf = unsigned_have_no_leaf (h1) prepare (prepares) (x.says) refl;
      once = λ here. here;
    }

    gets : IsStep c me [] first_point (Got me new_view) first_point
    gets = record { own = refl; may = tt; moves = moves_nothing c me new_view begins receives tt }

    sends : IsStep c me h1 first_point (Sent me prepare) first_point
    sends = record { own = refl; may = may; moves = refl }

    is_right : IsReplica c me now
    is_right = inl (first_point, (first_point, sends, (first_point, gets, (owes_it, (refl, refl)))))

pub new_views_are_taken : NewViewsAreTaken
new_views_are_taken clients seed me batch root a b d new_view prepare backup ha hb hd signed x =
    is_right clients seed me batch root a b d new_view prepare backup (prepared_is_selected clients seed batch root a b d ha hb hd) signed x

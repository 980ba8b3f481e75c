-- A primary that selects nothing over its data has no new view to send by its history.
use Rattle.std.proofs.Common.{◌≡◌, ℕ, zero, suc, ◌≤◌, ◌<◌, ◌⊎◌, inl, inr, Bool, true, false, cond, ◌&&◌, List, [], ◌∷◌, length, map, Option, Some, None, refl, sym, ap, ap₂, ◌∙◌, subst, arith, eqb-true, eq-eqb}
use Rattle.std.specs.Prelude.{◌==◌, nat_le}
use Rattle.std.specs.Option.{option_map_or}
use Rattle.std.proofs.lemmas.Bool.{and_parts, and_from, or_cases, or_left, leb-true}
use Rattle.std.proofs.lemmas.Slice.Eq.{bytes_eq-Decides}
use Rattle.sha2.specs.Sha256.{sha256}
use Rattle.wire_format.specs.Lists.{Each}
use Rattle.wire_format.specs.Messages.{BodyData as Body, MessageData as Message, ViewChangeData, NewViewData, BatchEntryData as PqEntry, view_change as ViewChange}
use Rattle.ordering.specs.Log as logs
use Rattle.ordering.specs.Log.{LogData}
use Rattle.protocol.specs.System.Configuration.{Configuration, primary}
use Rattle.protocol.specs.System.Trace.{Entry, Once, Has}
use Rattle.protocol.specs.System.Trace.Entry.{Sent}
use Rattle.protocol.specs.Replica.Selection.{ascending, changes_of, count_in, is_quorum, is_start, is_within, is_null, is_some_below, may_be_null, may_stand, may_stand_at, may_all_stand, null_batch}
use Rattle.protocol.specs.Replica.Certificates.{change_from, change_sent, target, view}
use Rattle.protocol.specs.Replica.RightReplica.{Point, HistoryReaches, IsStep, MaySendMessage, MaySend, MayViewChange, SendsBytes}
use Rattle.protocol.specs.Replica.Owed.{IsSending, AreKeysSpent, HasLatestChange, HasBatch, CanBeginView}
use Rattle.protocol.proofs.Words.Options.{some_injective}
use Rattle.protocol.proofs.Words.Elements.{has_weaker, has_some, has_map, has_mapped, each_weaker, each_of_all}
use Rattle.protocol.proofs.Words.Temporal.{once_weaker}
use Rattle.pq_sets.specs.PqSetsView.{PqSetsData, digests_of}
use Rattle.view_change.specs.ReceivedData.{HeldData, held_of, held_for, pairs_for}
use Rattle.view_change.specs.Selecting.{are_for, is_set_for, how_many_from, meets, IsPartOfSet, IsAvailable, AreFrom}
use Rattle.view_change.proofs.Larger.{selects_by_set}
use Rattle.replica_histories.specs.Logs.{FitsLog}
use Rattle.replica_histories.specs.Changes.{Changes, FitsChanges}
use Rattle.replica_histories.specs.Primaries.{IsNullOrInQ, SelectsNothing, QSelectsNothing, FewerSelectNothing, NoViewsAreLeft}
use Rattle.replica_histories.proofs.Leaves.{all_are_spent}
use Rattle.replica_histories.proofs.SentOnce.{sends_says}
use Rattle.replica_histories.proofs.Words.{primary_same}

-- ---- one batch of each digest is enough

module _ (c : Configuration) (view : ℕ) (pq_sets : PqSetsData) (named : map sha256 pq_sets.texts ≡ digests_of pq_sets.logged) where
  -- there is a text of each digest in Q
  text_of : (digest : List ℕ) → Has (λ pq_entry. pq_entry.digest ≡ digest) pq_sets.logged → (text : List ℕ) × Has (λ x. x ≡ text) pq_sets.texts × (sha256 text ≡ digest)
  text_of digest has =
      has_some (λ x. sha256 x ≡ digest) pq_sets.texts
      (has_map (λ d. d ≡ digest) sha256 pq_sets.texts
      (subst (λ (ds : List (List ℕ)). Has (λ d. d ≡ digest) ds) (sym named) (has_mapped (λ d. d ≡ digest) (λ (pq_entry : PqEntry). pq_entry.digest) pq_sets.logged has)))

  abbrev Stands : List (ℕ × ViewChangeData) → ℕ → List ℕ → Type 0
  Stands set number batch = may_stand c view set number batch ≡ true

  -- it may stand wherever the batch may
  record Other (batch : List ℕ) : Type 0 where
    text : List ℕ
    from : IsAvailable pq_sets.texts text
    stands : (set : List (ℕ × ViewChangeData)) (number : ℕ) → Stands set number batch → Stands set number text

  other_of : (batch : List ℕ) → IsNullOrInQ pq_sets batch → Other batch
  other_of batch is = go (is_null batch) refl is
    where
      null_is : is_null batch ≡ true → null_batch ≡ batch
      null_is h = sym ((bytes_eq-Decides batch null_batch).0 h)

      go : (b : Bool) → is_null batch ≡ b → IsNullOrInQ pq_sets batch → Other batch
      go true h k = record { text = batch; from = inl (null_is h); stands = λ set number s. s }
      go false h (inl k) = absurd (let bad : true ≡ false = sym ((bytes_eq-Decides batch null_batch).1 k) ∙ h in cc)
      go false h (inr k) =
          let t = text_of (sha256 batch) k in
          record { text = t.0; from = inr t.1; stands = λ set number s. stands t.0 t.2 set number (or_cases (is_some_below (may_stand_at c set number (sha256 batch)) view) (is_null batch && may_be_null c set number) s) }
        where
          stands : (text : List ℕ) → sha256 text ≡ sha256 batch → (set : List (ℕ × ViewChangeData)) (number : ℕ)
              → (is_some_below (may_stand_at c set number (sha256 batch)) view ≡ true) ⊎ ((is_null batch && may_be_null c set number) ≡ true) → Stands set number text
          stands text same set number (inl below) =
              or_left (is_some_below (may_stand_at c set number (sha256 text)) view) (is_null text && may_be_null c set number)
              (subst (λ (d : List ℕ). is_some_below (may_stand_at c set number d) view ≡ true) (sym same) below)
          stands text same set number (inr null) = absurd (let bad : true ≡ false = sym (and_parts (is_null batch) (may_be_null c set number) null).0 ∙ h in cc)

  record Others (batches : List (List ℕ)) : Type 0 where
    texts : List (List ℕ)
    from : AreFrom pq_sets.texts texts
    long : length texts ≡ length batches
    stand : (set : List (ℕ × ViewChangeData)) (number : ℕ) → may_all_stand c view set number batches ≡ true → may_all_stand c view set number texts ≡ true

  others_of : (batches : List (List ℕ)) → Each (IsNullOrInQ pq_sets) batches → Others batches
  others_of [] each = record { texts = []; from = tt; long = refl; stand = λ set number h. refl }
  others_of (batch ∷ batches) each =
      let one = other_of batch each.0 in
      let rest = others_of batches each.1 in
      record {
        texts = one.text ∷ rest.texts;
        from = (one.from, rest.from);
        long = ap suc rest.long;
        stand = λ set number h.
            let p = and_parts (may_stand c view set number batch) (may_all_stand c view set (suc number) batches) h in
            and_from (may_stand c view set number one.text) (may_all_stand c view set (suc number) rest.texts) (one.stands set number p.0) (rest.stand set (suc number) p.1);
      }

  met : (set : List (ℕ × ViewChangeData)) (start : ℕ) (root : List ℕ) (batches : List (List ℕ)) (o : Others batches) → meets c view set start root batches ≡ true → meets c view set start root o.texts ≡ true
  met set start root batches o h =
      let p = and_parts (is_start c set start root && (length batches == how_many_from c set start)) (may_all_stand c view set (suc start) batches) h in
      let q = and_parts (is_start c set start root) (length batches == how_many_from c set start) p.0 in
      and_from (is_start c set start root && (length o.texts == how_many_from c set start)) (may_all_stand c view set (suc start) o.texts)
      (and_from (is_start c set start root) (length o.texts == how_many_from c set start) q.0 (ap (λ (n : ℕ). n == how_many_from c set start) o.long ∙ q.1))
      (o.stand set (suc start) p.1)

pub q_selects_nothing : QSelectsNothing
q_selects_nothing c view held pq_sets named nothing part start root batches is order each = go (meets c view part start root batches) refl
  where
    go : (b : Bool) → meets c view part start root batches ≡ b → b ≡ false
    go false h = refl
    go true h =
        let o = others_of c view pq_sets named batches each in
        let yes = met c view pq_sets named part start root batches o h in
        let no = nothing part start root o.texts is order o.from in
        absurd (let bad : true ≡ false = sym yes ∙ no in cc)

pub fewer_select_nothing : FewerSelectNothing
fewer_select_nothing c view held old new fewer nothing part start root batches is order each =
    nothing part start root batches is order (each_weaker (IsNullOrInQ new) (IsNullOrInQ old) (λ batch k. was batch k) batches each)
  where
    was : (batch : List ℕ) → IsNullOrInQ new batch → IsNullOrInQ old batch
    was batch (inl k) = inl k
    was batch (inr k) =
        let it = has_some (λ pq_entry. pq_entry.digest ≡ sha256 batch) new.logged k in
        inr (has_weaker (λ x. x ≡ it.0) (λ pq_entry. pq_entry.digest ≡ sha256 batch) (λ x same. ap (λ (pq_entry : PqEntry). pq_entry.digest) same ∙ it.2) old.logged (fewer it.0 it.1))

-- ---- the replica has one view change of its own

abbrev Says : ℕ → ViewChangeData → List Entry → Entry → Type 0
Says me vc past e = IsSending me (ViewChange vc) e

says_view : (me : ℕ) (vc : ViewChangeData) (past : List Entry) (e : Entry) → Says me vc past e → change_sent e ≡ vc.view
says_view me vc past (Sent p bytes) h = ap (λ (o : Option Body). option_map_or change_from o 0) h
says_view me vc past _ h = absurd h

said_below : (me : ℕ) (vc : ViewChangeData) (history : List Entry) → Once (Says me vc) history → vc.view ≤ target history
said_below me vc [] h = absurd h
said_below me vc (e ∷ past) (inl h) = let is = says_view me vc past e h in omega (arith, is)
said_below me vc (e ∷ past) (inr h) = let most = said_below me vc past h in omega (arith, most)

change_in_body : ViewChangeData → Body → ViewChangeData
change_in_body other body = elim body.message [ ViewChange vc ↦ vc | _ ↦ other ]

same_said : (me : ℕ) (a b : ViewChangeData) (past : List Entry) (e : Entry) → Says me a past e → Says me b past e → a ≡ b
unfolding change_in_body
same_said me a b past (Sent p bytes) h k = ap (change_in_body a) (some_injective (record { sender = me; message = ViewChange a }) (record { sender = me; message = ViewChange b }) (sym h ∙ k))
same_said me a b past _ h k = absurd h

-- it is for a later view than all before, or was sent before
new_or_again : (c : Configuration) (me : ℕ) (vc : ViewChangeData) (past : List Entry) (e : Entry) (old new : Point) → IsStep c me past old e new → Says me vc past e
    → (target past < vc.view) ⊎ ((vc.view ≡ target past) × Once (Says me vc) past)
new_or_again c me vc past (Sent p bytes) old new step h = go (subst (λ (m : Message). MaySendMessage c me past old (Sent p bytes) bytes m) (ap (λ (b : Body). b.message) same) may.allowed)
  where
    may : MaySend c me past old (Sent p bytes) bytes
    may = step.may

    same : may.body ≡ record { sender = me; message = ViewChange vc }
    same = some_injective may.body (record { sender = me; message = ViewChange vc }) (sym may.says ∙ h)

    go : MayViewChange c me past old bytes vc → (target past < vc.view) ⊎ ((vc.view ≡ target past) × Once (Says me vc) past)
    go (inl n) = inl n.newer
    go (inr again) = inr (again.1, once_weaker (SendsBytes bytes) (Says me vc) (λ earlier x sends. sends_says me (ViewChange vc) bytes earlier x h sends) past again.2)
new_or_again c me vc past _ old new step h = absurd h

-- the earlier of two is the later one, or below it
earlier_change : (me : ℕ) (a b : ViewChangeData) (e : Entry) (past : List Entry) → b.view ≤ target past → target (e ∷ past) ≡ a.view → target (e ∷ past) ≡ b.view
    → (target past < a.view) ⊎ ((a.view ≡ target past) × Once (Says me a) past) → (Once (Says me a) past → target past ≡ a.view → target past ≡ b.view → a ≡ b) → a ≡ b
earlier_change me a b e past most first second (inl newer) then = absurd (omega (arith, newer, most, first, second))
earlier_change me a b e past most first second (inr again) then = let is = again.0 in then again.1 (sym is) (omega (arith, is, first, second))

one_change : (c : Configuration) (me : ℕ) (a b : ViewChangeData) (history : List Entry) (point : Point) → HistoryReaches c me history point → Once (Says me a) history → Once (Says me b) history
    → target history ≡ a.view → target history ≡ b.view → a ≡ b
one_change c me a b [] point leaves h k first second = absurd h
one_change c me a b (e ∷ past) point leaves (inl h) (inl k) first second = same_said me a b past e h k
one_change c me a b (e ∷ past) point leaves (inr h) (inr k) first second =
    let most = said_below me a past h in
    let least : target past ≤ target (e ∷ past) = omega arith in
    one_change c me a b past leaves.0 leaves.1 h k (omega (arith, most, least, first)) (omega (arith, most, least, first, second))
one_change c me a b (e ∷ past) point leaves (inl h) (inr k) first second =
    earlier_change me a b e past (said_below me b past k) first second (new_or_again c me a past e leaves.0 point leaves.2 h)
    (λ again at also. one_change c me a b past leaves.0 leaves.1 again k at also)
one_change c me a b (e ∷ past) point leaves (inr h) (inl k) first second =
    sym (earlier_change me b a e past (said_below me a past h) second first (new_or_again c me b past e leaves.0 point leaves.2 k)
    (λ again at also. sym (one_change c me a b past leaves.0 leaves.1 h again also at)))

-- ---- the stored view changes for a view

put_ahead : (v : ℕ) (o : Option HeldData) (held : List (Option HeldData)) (pair : ℕ × ViewChangeData) → Has (λ z. z ≡ pair) (pairs_for v held) → Has (λ z. z ≡ pair) (pairs_for v (o ∷ held))
put_ahead v None held pair h = h
put_ahead v (Some g) held pair h = go (g.change.view == v)
  where
    go : (b : Bool) → Has (λ z. z ≡ pair) (map (λ (x : HeldData). (x.sender, x.change)) (cond b (g ∷ held_for v held) (held_for v held)))
    go true = inr h
    go false = h

abbrev IsPair : HeldData → ℕ × ViewChangeData → Type 0
IsPair h z = z ≡ (h.sender, h.change)

held_pair : (v : ℕ) (held : List (Option HeldData)) (s : ℕ) (h : HeldData) → held_of held s ≡ Some h → h.change.view ≡ v → Has (IsPair h) (pairs_for v held)
held_pair v [] s h is same = absurd cc
held_pair v (o ∷ held) (suc s) h is same = put_ahead v o held (h.sender, h.change) (held_pair v held s h is same)
held_pair v (o ∷ held) zero h is same =
    subst (λ (x : Option HeldData). Has (IsPair h) (pairs_for v (x ∷ held))) (sym is) (here (h.change.view == v) (eq-eqb h.change.view v same))
  where
    here : (b : Bool) → b ≡ true → Has (IsPair h) (map (λ (x : HeldData). (x.sender, x.change)) (cond b (h ∷ held_for v held) (held_for v held)))
    here true t = inl refl
    here false t = absurd cc

-- ---- no new view is left

module _ (c : Configuration) (me : ℕ) (log : LogData) (x : Changes) (history : List Entry) (point : Point) (leaves : HistoryReaches c me history point) (fits : FitsLog c me log history) (f : FitsChanges c me log x history)
    (new : NewViewData) (can : CanBeginView c me history new) where
  inactive : log.active ≡ false
  inactive = sym fits.active ∙ go (nat_le (target history) log.view) refl
    where
      go : (b : Bool) → nat_le (target history) log.view ≡ b → b ≡ false
      go true h = let most = leb-true (target history) log.view h in let left = can.left in let is = fits.view in absurd (omega (arith, most, left, is))
      go false h = refl

  view_is : new.view ≡ x.target
  view_is = can.view ∙ f.target

  own : logs.primary log x.target ≡ log.me
  own = primary_same c log x.target fits.faults ∙ ap (primary c) (sym view_is) ∙ can.primary ∙ sym fits.own

  rules : (is_set_for c new.view (changes_of c new) ≡ true) × (meets c new.view (changes_of c new) new.start new.root new.batches ≡ true)
  rules = let r = (selects_by_set c new).0 can.selected in (r.1, r.2)

  -- the view changes that it carries are stored
  held_there : (y : ℕ × ViewChangeData) → HasLatestChange c me history y → y.1.view ≡ new.view → Has (λ z. z ≡ y) (pairs_for x.target x.held)
  held_there y (inl (other, once, latest)) for_view =
      let h = f.received.taken y other once latest in
      subst (λ (p : ℕ × ViewChangeData). Has (λ z. z ≡ p) (pairs_for x.target x.held))
      (ap₂ (λ (s : ℕ) (vc : ViewChangeData). (s, vc)) (f.received.placed y.0 h.0 h.1) h.2)
      (held_pair x.target x.held y.0 h.0 h.1 (ap (λ (vc : ViewChangeData). vc.view) h.2 ∙ for_view ∙ view_is))
  held_there y (inr (mine, once, at)) for_view =
      let o = f.own_change inactive in
      let same : o.own.change ≡ y.1 = one_change c me o.own.change y.1 history point leaves (once_weaker (SendsBytes o.own.frame) (Says me o.own.change) (λ past e sends. sends_says me (ViewChange o.own.change) o.own.frame past e o.is_outgoing.says sends) history o.sent) once (f.target ∙ sym o.view) at in
      subst (λ (p : ℕ × ViewChangeData). Has (λ z. z ≡ p) (pairs_for x.target x.held))
      (ap₂ (λ (s : ℕ) (vc : ViewChangeData). (s, vc)) (f.received.placed me o.own o.held ∙ sym mine) same)
      (held_pair x.target x.held me o.own o.held o.view)

  part : IsPartOfSet (changes_of c new) (pairs_for x.target x.held)
  part = all (changes_of c new) can.changes (each_of_all (λ y. y.1.view ≡ new.view) (λ y. (y.1.view == new.view) && is_within c y.1) (λ y t. eqb-true y.1.view new.view (and_parts (y.1.view == new.view) (is_within c y.1) t).0) (changes_of c new) are)
    where
      are : are_for new.view (changes_of c new) c ≡ true
      are = (and_parts (is_quorum c (count_in c (λ vc. true) (changes_of c new)) && ascending (changes_of c new)) (are_for new.view (changes_of c new) c) rules.0).1

      all : (set : List (ℕ × ViewChangeData)) → Each (HasLatestChange c me history) set → Each (λ y. y.1.view ≡ new.view) set → Each (λ y. Has (λ z. z ≡ y) (pairs_for x.target x.held)) set
      all [] h k = tt
      all (y ∷ set) h k = (held_there y h.0 k.0, all set h.1 k.1)

  order : ascending (changes_of c new) ≡ true
  order =
      (and_parts (is_quorum c (count_in c (λ vc. true) (changes_of c new))) (ascending (changes_of c new))
      (and_parts (is_quorum c (count_in c (λ vc. true) (changes_of c new)) && ascending (changes_of c new)) (are_for new.view (changes_of c new) c) rules.0).0).1

  -- its batches are in Q
  in_q : Each (IsNullOrInQ x.pq_sets) new.batches
  in_q = each_weaker (HasBatch c me history) (IsNullOrInQ x.pq_sets) one new.batches can.batches
    where
      one : (batch : List ℕ) → HasBatch c me history batch → IsNullOrInQ x.pq_sets batch
      one batch (inl null) = inl null
      one batch (inr (v, i, here, within)) =
          inr (has_weaker (λ z. (z.number ≡ i) × (z.digest ≡ sha256 batch) × (v ≤ z.view)) (λ z. z.digest ≡ sha256 batch) (λ z h. h.1) x.pq_sets.logged (f.pq_sets.logged.all v i (sha256 batch) within (batch, here, refl)))

pub no_views_are_left : NoViewsAreLeft
no_views_are_left c me log x history point leaves fits f none new can = go (none (inactive c me log x history point leaves fits f new can) (own c me log x history point leaves fits f new can))
  where
    go : SelectsNothing c x.target x.held x.pq_sets ⊎ (x.spent ≡ 64) → AreKeysSpent history
    go (inl nothing) =
        let no = nothing (changes_of c new) new.start new.root new.batches (part c me log x history point leaves fits f new can) (order c me log x history point leaves fits f new can) (in_q c me log x history point leaves fits f new can) in
        let yes = (rules c me log x history point leaves fits f new can).1 in
        absurd (let bad : true ≡ false = sym (subst (λ (v : ℕ). meets c v (changes_of c new) new.start new.root new.batches ≡ true) (view_is c me log x history point leaves fits f new can) yes) ∙ no in cc)
    go (inr spent) = all_are_spent c me log x history spent f

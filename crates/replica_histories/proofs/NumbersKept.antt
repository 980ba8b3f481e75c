-- Entries that assign no number.
use Rattle.std.proofs.Common.{◌≡◌, ◌≢◌, ℕ, inl, inr, true, false, List, [], ◌∷◌, refl, sym, arith, ap, ◌∙◌, subst, Option, Some, None, is_some}
use Rattle.std.specs.Prelude.{option_and_then}
use Rattle.std.specs.Option.{option_map_or}
use Rattle.quorum.specs.Votes.{or_else}
use Rattle.wire_format.specs.Messages.{BodyData as Body, MessageData as Message, pre_prepare as PrePrepare}
use Rattle.wire_format.specs.Words.{said}
use Rattle.wire.proofs.Skipping.{none_chosen}
use Rattle.protocol.specs.System.Configuration.{Configuration, primary}
use Rattle.protocol.specs.System.Trace.{Entry, party_of}
use Rattle.protocol.specs.System.Trace.Entry.{Got, Sent}
use Rattle.protocol.specs.Replica.Certificates.{brought, taken, low, is_in_marks, counts_at, batch_from, assigned_batch, assigned_proposal, entry_proposal, proposal, logged}
use Rattle.protocol.specs.Replica.Owed.{IsNumbered}
use Rattle.protocol.proofs.Words.Options.{and_then_some, some_injective, or_else_second}
use Rattle.protocol.proofs.Words.Plain.{said_plain, taken_none}
use Rattle.protocol.proofs.Words.Elements.{each_weaker}
use Rattle.protocol.proofs.Agreement.Marks.{low_grows}
use Rattle.protocol.proofs.Agreement.Voting.{logged_stays, batch_is}
use Rattle.replica_histories.specs.Numbers.{IsRightly, KeepsNumbers, NumbersStay, is_pre_prepare, sends_pre_prepare, OthersKeepNumbers, BatchesKeepNumbers}
use Rattle.replica_histories.proofs.Words.{passed, given_not}
use Rattle.replica_histories.proofs.Speaking.{heard_other}
use Rattle.replica_histories.proofs.NumbersFlags.{either_weaker}

-- ---- which batches an entry logs

-- if no new view is taken, a logged batch comes from such a message
pub proposal_said : (c : Configuration) (me v i : ℕ) (batch : List ℕ) (past : List Entry) (e : Entry) → taken c past e ≡ None → proposal c me past e v i ≡ Some batch
    → (body : Body) × (brought c e ≡ Some body) × (body.message ≡ PrePrepare v i batch) × (body.sender ≡ primary c v)
proposal_said c me v i batch past e none h =
    let assigned = none_chosen (is_in_marks c (low c me (e ∷ past)) i) (option_and_then (assigned_batch v i) (taken c past e)) (ap (option_and_then (assigned_batch v i)) none) in
    let entry : entry_proposal c me past e v i ≡ Some batch = sym (or_else_second (assigned_proposal c me past e v i) (entry_proposal c me past e v i) assigned) ∙ h in
    let p = passed (counts_at c me past e v i) (option_and_then (batch_from c me v i) (brought c e)) batch entry in
    let b = and_then_some (batch_from c me v i) (brought c e) batch p.1 in
    let s = batch_is c me v i batch b.0.sender b.0.message b.2 in
    (b.0, b.1, s.0, s.1)

-- an entry that proposes nothing for a free number logs nothing there
pub logged_same : (c : Configuration) (me v i : ℕ) (past : List Entry) (e : Entry) → ((batch : List ℕ) → proposal c me past e v i ≡ Some batch → logged c me past v i ≡ None → ⊥)
    → logged c me (e ∷ past) v i ≡ logged c me past v i
unfolding logged
logged_same c me v i past e none = go (logged c me past v i) (proposal c me past e v i) none
  where
    go : (o later : Option (List ℕ)) → ((batch : List ℕ) → later ≡ Some batch → o ≡ None → ⊥) → or_else o later ≡ o
    go (Some x) later f = refl
    go None None f = refl
    go None (Some batch) f = absurd (f batch refl refl)

-- ---- which requests have a number

-- a number stays
pub numbered_stays : (c : Configuration) (me v client timestamp : ℕ) (past : List Entry) (e : Entry) → IsNumbered c me past v client timestamp → IsNumbered c me (e ∷ past) v client timestamp
numbered_stays c me v client timestamp past e (batch, inl (i, there), has) = (batch, inl (i, logged_stays c me v i batch e past there), has)
numbered_stays c me v client timestamp past e (batch, inr assigned, has) = (batch, inr (inr assigned), has)

pub keeps : (c : Configuration) (me v : ℕ) (past : List Entry) (e : Entry) → taken c past e ≡ None → ((i : ℕ) → logged c me (e ∷ past) v i ≡ logged c me past v i) → KeepsNumbers c me v past e
keeps c me v past e none same = record { batches = same; numbered = λ client timestamp. (back client timestamp, numbered_stays c me v client timestamp past e) }
  where
    back : (client timestamp : ℕ) → IsNumbered c me (e ∷ past) v client timestamp → IsNumbered c me past v client timestamp
    back client timestamp (batch, inl (i, there), has) = (batch, inl (i, sym (same i) ∙ there), has)
    back client timestamp (batch, inr (inl begins), has) = absurd (given_not (taken c past e) begins.0 begins.1 none)
    back client timestamp (batch, inr (inr before), has) = (batch, inr before, has)

pub numbers_stay : NumbersStay
numbers_stay c me v used assigned entries st waiting past e k f = record {
  calls = f.calls;
  free = λ j above. k.batches j ∙ f.free j above;
  full = λ j above below. let more = low_grows c me e past in ap is_some (k.batches j) ∙ f.full j (omega (arith, above, more)) below;
  rightly = each_weaker (IsRightly c me v past) (IsRightly c me v (e ∷ past))
      (λ w. either_weaker w.numbered (k.numbered w.call.client w.call.timestamp).1 (λ none h. none ((k.numbered w.call.client w.call.timestamp).0 h))) entries f.rightly;
  numbered = each_weaker (λ b. IsNumbered c me past v b.client b.timestamp) (λ b. IsNumbered c me (e ∷ past) v b.client b.timestamp) (λ b. (k.numbered b.client b.timestamp).1) assigned f.numbered;
  known = λ client timestamp h. f.known client timestamp ((k.numbered client timestamp).0 h);
  differ = f.differ;
}

-- ---- entries that send no pre-prepare

-- a message that an entry brings is received from another, or sent
proposed_by_other : (c : Configuration) (me v i : ℕ) (batch : List ℕ) (e : Entry) → primary c v ≡ me → party_of e ≡ me → sends_pre_prepare e ≡ false
    → (body : Body) → brought c e ≡ Some body → body.message ≡ PrePrepare v i batch → body.sender ≡ primary c v → ⊥
proposed_by_other c me v i batch (Got p bytes) own here none body brings message sender = heard_other c p bytes body brings (sender ∙ own ∙ sym here)
proposed_by_other c me v i batch (Sent p bytes) own here none body brings message sender =
    let is : is_pre_prepare body.message ≡ false = ap (λ (o : Option Body). option_map_or (λ (b : Body). is_pre_prepare b.message) o false) (sym brings) ∙ none in
    let bad : true ≡ false = ap is_pre_prepare (sym message) ∙ is in
    cc
proposed_by_other c me v i batch _ own here none body brings message sender = cc

pub others_keep_numbers : OthersKeepNumbers
others_keep_numbers c me v past e own here none sends = keeps c me v past e none same
  where
    same : (i : ℕ) → logged c me (e ∷ past) v i ≡ logged c me past v i
    same i = logged_same c me v i past e
        (λ batch h free. let s = proposal_said c me v i batch past e none h in proposed_by_other c me v i batch e own here sends s.0 s.1 s.2 s.3)

-- ---- a pre-prepare

abbrev pub number_of : Message → ℕ
number_of message = elim message [ PrePrepare v i batch ↦ i | _ ↦ 0 ]

abbrev pub view_of : Message → ℕ
view_of message = elim message [ PrePrepare v i batch ↦ v | _ ↦ 0 ]

abbrev batch_of : Message → List ℕ
batch_of message = elim message [ PrePrepare v i batch ↦ batch | _ ↦ [] ]

-- it is for one view and number
pub same_proposal : (me v w i k : ℕ) (batch b bytes : List ℕ) → said bytes ≡ Some (record { sender = me; message = PrePrepare v i batch }) → said bytes ≡ Some (record { sender = me; message = PrePrepare w k b })
    → (v ≡ w) × (i ≡ k) × (batch ≡ b)
same_proposal me v w i k batch b bytes says other =
    let same : ◌≡◌ {A = Body} (record { sender = me; message = PrePrepare v i batch }) (record { sender = me; message = PrePrepare w k b }) = some_injective _ _ (sym says ∙ other) in
    let message : PrePrepare v i batch ≡ PrePrepare w k b = ap (λ (x : Body). x.message) same in
    (ap view_of message, ap number_of message, ap batch_of message)

-- it takes no new view
pub proposal_takes_none : (c : Configuration) (me v i : ℕ) (batch bytes : List ℕ) (past : List Entry) → said bytes ≡ Some (record { sender = me; message = PrePrepare v i batch }) → taken c past (Sent me bytes) ≡ None
proposal_takes_none c me v i batch bytes past says = taken_none c past (Sent me bytes) (said_plain c past me bytes (record { sender = me; message = PrePrepare v i batch }) says tt)

-- and logs nothing for other numbers
pub logged_elsewhere : (c : Configuration) (me v i j : ℕ) (batch bytes : List ℕ) (past : List Entry) → said bytes ≡ Some (record { sender = me; message = PrePrepare v i batch })
    → (logged c me past v j ≡ None → j ≢ i) → logged c me (Sent me bytes ∷ past) v j ≡ logged c me past v j
logged_elsewhere c me v i j batch bytes past says other = logged_same c me v j past (Sent me bytes) none
  where
    none : (b : List ℕ) → proposal c me past (Sent me bytes) v j ≡ Some b → logged c me past v j ≡ None → ⊥
    none b h free =
        let s = proposal_said c me v j b past (Sent me bytes) (proposal_takes_none c me v i batch bytes past says) h in
        let same : ◌≡◌ {A = Body} (record { sender = me; message = PrePrepare v i batch }) s.0 = some_injective _ _ (sym says ∙ s.1) in
        let at : i ≡ j = ap (λ (x : Body). number_of x.message) same ∙ ap number_of s.2 in
        other free (sym at)

pub batches_keep_numbers : BatchesKeepNumbers
batches_keep_numbers c me v i batch bytes past says there = (
  λ w k b says_it free.
      let s = same_proposal me v w i k batch b bytes says says_it in
      absurd (given_not (logged c me past v i) batch there (subst (λ (x : ℕ). logged c me past x i ≡ None) (sym s.0) (subst (λ (x : ℕ). logged c me past w x ≡ None) (sym s.1) free))),
  keeps c me v past (Sent me bytes) (proposal_takes_none c me v i batch bytes past says)
      (λ j. logged_elsewhere c me v i j batch bytes past says
      (λ free at. given_not (logged c me past v i) batch there (subst (λ (x : ℕ). logged c me past v x ≡ None) at free))),
)

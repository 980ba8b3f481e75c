-- The oldest requests without a number get the next one.
use Rattle.std.proofs.Common.{◌≡◌, ◌≢◌, ℕ, ◌≤◌, ◌<◌, ◌⊎◌, inl, inr, Bool, true, false, not, List, ◌∷◌, ◌++◌, take, drop, refl, sym, ap, ◌∙◌, subst, arith, Some, None, is_some, eqb-true, eq-eqb, AllPairs}
use Rattle.std.specs.Prelude.{◌==◌, option_and_then}
use Rattle.std.proofs.lemmas.Bool.{eqb-false}
use Rattle.std.proofs.lemmas.List.{take-append-drop}
use Rattle.wire_format.specs.Messages.{pre_prepare as PrePrepare}
use Rattle.wire_format.specs.Words.{requests_of, said}
use Rattle.wire_format.specs.Lists.{Each}
use Rattle.wire.proofs.Skipping.{none_chosen}
use Rattle.protocol.specs.System.Configuration.{Configuration, primary}
use Rattle.protocol.specs.System.Trace.{Entry, Has}
use Rattle.protocol.specs.System.Trace.Entry.{Sent}
use Rattle.protocol.specs.Replica.Certificates.{taken, low, is_in_marks, are_genuine, batch_from, assigned_batch, assigned_proposal, entry_proposal, proposal, logged}
use Rattle.protocol.specs.Replica.State.{State, Call}
use Rattle.protocol.specs.Replica.RightReplica.{IsFree}
use Rattle.protocol.proofs.Agreement.Marks.{low_grows}
use Rattle.protocol.specs.Replica.Owed.{IsNumbered, HasRequest, AreDifferent, NumbersOnce}
use Rattle.protocol.proofs.Words.Options.{some_injective, or_else_second}
use Rattle.protocol.proofs.Words.Elements.{has_some, has_weaker, has_filter, has_map, has_mapped, each_has, each_weaker}
use Rattle.protocol.proofs.Words.Pairs.{Pairs, pairs_of, all_pairs}
use Rattle.replica_histories.specs.Numbers.{Waiting, AssignedCall, calls_of, unnumbered, with_numbered, CallIsKnown, IsInNewView, CallHasNumber, CallHasNoNumber, IsRightly, FitsNumbers, AreCalls, NumbersFit}
use Rattle.replica_histories.proofs.Words.{given_not}
use Rattle.replica_histories.proofs.NumbersFlags.{flag_has, has_flag, lacks_flag, rightly_none, calls_numbered, each_numbered}
use Rattle.replica_histories.proofs.NumbersLists.{each_front, each_back, has_taken, pairs_kept, pairs_mapped, pairs_unmapped, pairs_front, pairs_across, IsAt, Covers, spelled_at, call_spelled, Differ, frames_differ}
use Rattle.replica_histories.proofs.NumbersKept.{numbered_stays, same_proposal, proposal_takes_none, logged_elsewhere}

-- the batch that the primary's own pre-prepare logs for a free number
logged_here : (c : Configuration) (me v i : ℕ) (batch bytes : List ℕ) (past : List Entry) → primary c v ≡ me → are_genuine c me batch ≡ true
    → said bytes ≡ Some (record { sender = me; message = PrePrepare v i batch }) → logged c me past v i ≡ None → logged c me (Sent me bytes ∷ past) v i ≡ Some batch
unfolding logged
logged_here c me v i batch bytes past own genuine says free =
    or_else_second (logged c me past v i) (proposal c me past (Sent me bytes) v i) free
    ∙ or_else_second (assigned_proposal c me past (Sent me bytes) v i) (entry_proposal c me past (Sent me bytes) v i) assigned
    ∙ ap (option_and_then (batch_from c me v i)) says ∙ proposed
  where
    assigned : assigned_proposal c me past (Sent me bytes) v i ≡ None
    assigned = none_chosen (is_in_marks c (low c me (Sent me bytes ∷ past)) i) (option_and_then (assigned_batch v i) (taken c past (Sent me bytes)))
        (ap (option_and_then (assigned_batch v i)) (proposal_takes_none c me v i batch bytes past says))

    proposed : batch_from c me v i (record { sender = me; message = PrePrepare v i batch }) ≡ Some batch
    proposed = rw (eq-eqb v v refl, eq-eqb i i refl, eq-eqb me (primary c v) (sym own), genuine) refl

module _ (c : Configuration) (me v used i most : ℕ) (assigned : List AssignedCall) (entries : List Waiting) (st : State) (waiting : List Call) (batch bytes : List ℕ) (past : List Entry)
    (own : primary c v ≡ me) (next : IsFree c me past st.number v i) (genuine : are_genuine c me batch ≡ true) (spells : AreCalls c (requests_of batch) (calls_of (take most (unnumbered entries))))
    (says : said bytes ≡ Some (record { sender = me; message = PrePrepare v i batch })) (f : FitsNumbers c me v used assigned entries st waiting past) where
  abbrev oldest : List Waiting
  oldest = take most (unnumbered entries)

  abbrev later : List Waiting
  later = drop most (unnumbered entries)

  abbrev calls : List Call
  calls = calls_of oldest

  abbrev now : List Entry
  now = Sent me bytes ∷ past

  abbrev HadNone : Waiting → Type 0
  HadNone = λ w. CallHasNoNumber c me v past w.call

  abbrev Apart : Waiting → Waiting → Type 0
  Apart = λ w x. Differ c w.call x.call

  parts : unnumbered entries ≡ oldest ++ later
  parts = sym (take-append-drop most (unnumbered entries))

  none_had : Each HadNone (oldest ++ later)
  none_had = subst (Each HadNone) parts (rightly_none c me v past entries f.rightly)

  apart : Pairs Apart (oldest ++ later)
  apart = subst (Pairs Apart) parts (pairs_kept Apart (λ w. not w.numbered) entries
      (pairs_unmapped (Differ c) (λ w. w.call) entries (subst (Pairs (Differ c)) (sym f.calls) (pairs_of (Differ c) waiting f.differ))))

  -- ---- the history

  there : logged c me now v i ≡ Some batch
  there = logged_here c me v i batch bytes past own genuine says (next.unused i (omega arith))

  elsewhere : (j : ℕ) → j ≢ i → logged c me now v j ≡ logged c me past v j
  elsewhere j ne = logged_elsewhere c me v i j batch bytes past says (λ free. ne)

  -- a request that has a number now is one of these, or had one
  numbered_back : (client timestamp : ℕ) → IsNumbered c me now v client timestamp → Has (IsAt client timestamp) calls ⊎ IsNumbered c me past v client timestamp
  numbered_back client timestamp (b, inl (j, at), has) = go (j == i) refl
    where
      go : (t : Bool) → (j == i) ≡ t → Has (IsAt client timestamp) calls ⊎ IsNumbered c me past v client timestamp
      go true e =
          let same : batch ≡ b = some_injective batch b (sym there ∙ ap (logged c me now v) (sym (eqb-true j i e)) ∙ at) in
          inl (spelled_at c client timestamp (requests_of batch) calls spells (subst (HasRequest c client timestamp) (sym same) has))
      go false e = inr (b, inl (j, sym (elsewhere j (eqb-false j i e)) ∙ at), has)
  numbered_back client timestamp (b, inr (inl begins), has) = absurd (given_not (taken c past (Sent me bytes)) begins.0 begins.1 (proposal_takes_none c me v i batch bytes past says))
  numbered_back client timestamp (b, inr (inr before), has) = inr (b, inr before, has)

  -- ---- each call is numbered once

  fresh : (client timestamp : ℕ) → Has (IsAt client timestamp) calls → IsNumbered c me past v client timestamp → ⊥
  fresh client timestamp h numbered =
      let x = has_some (λ (w : Waiting). IsAt client timestamp w.call) oldest (has_map (IsAt client timestamp) (λ (w : Waiting). w.call) oldest h) in
      each_has HadNone oldest x.0 (each_front HadNone oldest later none_had) x.1
      (subst (λ (k : ℕ). IsNumbered c me past v k x.0.call.timestamp) (sym x.2.0) (subst (λ (t : ℕ). IsNumbered c me past v client t) (sym x.2.1) numbered))

  once : NumbersOnce c me past (Sent me bytes)
  once w k b says_it free =
      let s = same_proposal me v w i k batch b bytes says says_it in
      subst (λ (x : ℕ). AllPairs (AreDifferent c) (requests_of b) × ((client timestamp : ℕ) → HasRequest c client timestamp b → IsNumbered c me past x client timestamp → ⊥)) s.0
      (subst (λ (x : List ℕ). AllPairs (AreDifferent c) (requests_of x) × ((client timestamp : ℕ) → HasRequest c client timestamp x → IsNumbered c me past v client timestamp → ⊥)) s.2 (
        all_pairs (AreDifferent c) (requests_of batch) (frames_differ c (requests_of batch) calls spells (pairs_mapped (Differ c) (λ w. w.call) oldest (pairs_front Apart oldest later apart))),
        λ client timestamp has. fresh client timestamp (spelled_at c client timestamp (requests_of batch) calls spells has),
      ))

  -- ---- the longer history

  stays : (client timestamp : ℕ) → IsNumbered c me past v client timestamp → IsNumbered c me now v client timestamp
  stays client timestamp = numbered_stays c me v client timestamp past (Sent me bytes)

  has_number : (w : Waiting) → Has (λ x. x ≡ w) oldest → CallHasNumber c me v now w.call
  has_number w has = (
    batch,
    inl (i, there),
    call_spelled c w.call (requests_of batch) calls spells
        (has_mapped (λ x. x ≡ w.call) (λ (x : Waiting). x.call) oldest (has_weaker (λ x. x ≡ w) (λ (x : Waiting). x.call ≡ w.call) (λ x. ap (λ (y : Waiting). y.call)) oldest has)),
  )

  has_none : (w : Waiting) → Has (λ x. x ≡ w) later → CallHasNoNumber c me v now w.call
  has_none w has numbered = go (numbered_back w.call.client w.call.timestamp numbered)
    where
      go : Has (IsAt w.call.client w.call.timestamp) calls ⊎ IsNumbered c me past v w.call.client w.call.timestamp → ⊥
      go (inr was) = each_has HadNone later w (each_back HadNone oldest later none_had) has was
      go (inl new) =
          let x = has_some (λ (y : Waiting). IsAt w.call.client w.call.timestamp y.call) oldest (has_map (IsAt w.call.client w.call.timestamp) (λ (y : Waiting). y.call) oldest new) in
          each_has (Apart x.0) later w (each_has (λ (y : Waiting). Each (Apart y) later) oldest x.0 (pairs_across Apart oldest later apart) x.1) has x.2.0

  rightly : Each (IsRightly c me v now) (with_numbered most entries)
  rightly = each_numbered (IsRightly c me v past) (IsRightly c me v now) old most entries has_number
      (λ w e has was. lacks_flag c me v now w e (has_none w has)) f.rightly
    where
      old : (w : Waiting) → w.numbered ≡ true → IsRightly c me v past w → IsRightly c me v now w
      old w e was = has_flag c me v now w e (stays w.call.client w.call.timestamp (flag_has c me v past w e was))

  known : (client timestamp : ℕ) → Has (IsAt client timestamp) calls ⊎ IsNumbered c me past v client timestamp → CallIsKnown st waiting client timestamp ⊎ IsInNewView assigned client timestamp
  known client timestamp (inr was) = f.known client timestamp was
  known client timestamp (inl new) = inl (inr (subst (Has (Covers client timestamp)) f.calls (has_mapped (Covers client timestamp) (λ (w : Waiting). w.call) entries
      (has_filter (λ (w : Waiting). Covers client timestamp w.call) (λ w. not w.numbered) entries (has_taken (λ (w : Waiting). Covers client timestamp w.call) most (unnumbered entries)
      (has_weaker (λ (w : Waiting). IsAt client timestamp w.call) (λ w. Covers client timestamp w.call) (λ w at. (at.0, let same = at.1 in omega (arith, same))) oldest
      (has_map (IsAt client timestamp) (λ (w : Waiting). w.call) oldest new)))))))

  -- no number is skipped
  full : (j : ℕ) → low c me now < j → j ≤ i → is_some (logged c me now v j) ≡ true
  full j over upto = go (j == i) refl
    where
      go : (b : Bool) → (j == i) ≡ b → is_some (logged c me now v j) ≡ true
      go true e = ap is_some (ap (logged c me now v) (eqb-true j i e) ∙ there)
      go false e =
          let more = low_grows c me (Sent me bytes) past in
          let other = eqb-false j i e in
          ap is_some (elsewhere j other) ∙ next.used j (omega (arith, over, more)) (omega (arith, upto, other))

  pub given : NumbersOnce c me past (Sent me bytes) × FitsNumbers c me v i assigned (with_numbered most entries) st waiting now
  given = (
    once,
    record {
      calls = calls_numbered most entries ∙ f.calls;
      free = λ j higher. elsewhere j (λ e. absurd (omega (arith, e, higher))) ∙ next.unused j (omega (arith, higher));
      full = full;
      rightly = rightly;
      numbered = each_weaker (λ b. IsNumbered c me past v b.client b.timestamp) (λ b. IsNumbered c me now v b.client b.timestamp) (λ b. stays b.client b.timestamp) assigned f.numbered;
      known = λ client timestamp h. known client timestamp (numbered_back client timestamp h);
      differ = f.differ;
    },
  )

pub numbers_fit : NumbersFit
numbers_fit c me v used i most assigned entries st waiting batch bytes past own next genuine spells says f = given c me v used i most assigned entries st waiting batch bytes past own next genuine spells says f

-- The definitions refuse a primary that gives another number than the next, and a kept reply that nobody asked for.
use Rattle.std.proofs.Common.{◌≡◌, ℕ, ◌⊎◌, inl, inr, true, false, List, [], ◌∷◌, ◌++◌, sym, ap, ◌∙◌, subst, arith, Some, None}
use Rattle.std.specs.Prelude.{is_some}
use Rattle.terms.specs.declared.order.Mode.TheVariants as modes
use Rattle.wire_format.specs.Messages.{pre_prepare as PrePrepare, reply as Reply}
use Rattle.wire_format.specs.Words.{requests_of, said}
use Rattle.protocol.specs.System.Configuration.{Configuration}
use Rattle.protocol.specs.System.Trace.{Entry, is_output, Has, either, AreOutputs}
use Rattle.protocol.specs.System.Trace.Entry.{Invoke, Got, Tick, Executed, Installed, Sent, Accepted}
use Rattle.protocol.specs.Replica.Certificates.{logged}
use Rattle.protocol.specs.Replica.State.{Ran, ran_in}
use Rattle.protocol.specs.Replica.RightReplica.{Point, HistoryReaches, SafeReplica, May, MovesPoint, IsFree, MayPrePrepare, MayReply, Executes, AtInput, GetsOrdered, reply_of}
use Rattle.evidence.specs.Refused.{SkipsNoNumber, GoesBackToNoNumber, PrePreparesNearby, RepliesToWhoAsked, IsReplyOf}
use Rattle.protocol.proofs.Words.Elements.{has_either, has_some}
use Rattle.evidence.proofs.Refusing.{is_reply, newest_state}
use Rattle.evidence.proofs.RefusingReplies.{ran_of}
use Rattle.evidence.proofs.RefusingRuns.{says_may}

-- ---- numbers

-- a pre-prepare of a number without a batch has the next number
has_next : (c : Configuration) (me v i : ℕ) (batch bytes : List ℕ) (past : List Entry) → said bytes ≡ Some (record { sender = me; message = PrePrepare v i batch }) → logged c me past v i ≡ None
    → (right : SafeReplica c me (Sent me bytes ∷ past)) → IsFree c me past right.1.0.state.number v i
has_next c me v i batch bytes past says free right =
    let m : MayPrePrepare c me past right.1.0 (Sent me bytes) v i batch = says_may c me bytes (record { sender = me; message = PrePrepare v i batch }) past right says in
    m.next free

pub skips_no_number : SkipsNoNumber
skips_no_number c me v i j batch bytes past says free above below none right =
    let used = (has_next c me v i batch bytes past says free right).used j above below in
    absurd (let bad : false ≡ true = ap is_some (sym none) ∙ used in cc)

pub goes_back_to_no_number : GoesBackToNoNumber
goes_back_to_no_number c me v i j batch other bytes past says free above there right =
    let none = (has_next c me v i batch bytes past says free right).unused j (omega (arith, above)) in
    absurd (let bad : None ≡ Some other = sym none ∙ there in cc)

pub pre_prepares_nearby : PrePreparesNearby
pre_prepares_nearby c me v i batch bytes past says free right =
    omega (arith, (has_next c me v i batch bytes past says free right).near, newest_state c me past right.1.0 right.1.1)

-- ---- replies

-- each request that ran in the event is from a batch that the replica executed in the event
ran_here : (c : Configuration) (me : ℕ) (input : Entry) (past outputs : List Entry) → is_output input ≡ false → AreOutputs outputs → (point : Point) → HistoryReaches c me (outputs ++ input ∷ past) point
    → (x : Ran) → Has (λ y. y ≡ x) point.ran → Has (Executes x.kept.number []) outputs
ran_here c me input past [] is all point h x has = go input is h.2.may h.2.moves
  where
    go : (e : Entry) → is_output e ≡ false → May c me past h.0 e → MovesPoint c me past h.0 e point → Has (Executes x.kept.number []) []
    go (Got p bytes) is may move = absurd (subst (λ (rans : List Ran). Has (λ y. y ≡ x) rans) (ap (λ (q : Point). q.ran) move) has)
    go (Tick p) is may move = absurd (subst (λ (rans : List Ran). Has (λ y. y ≡ x) rans) (ap (λ (q : Point). q.ran) move) has)
    go (Invoke a b d) is may move = absurd may
    go (Accepted a b d) is may move = absurd may
    go _ is may move = absurd (let bad : true ≡ false = is in cc)
ran_here c me input past (e ∷ outputs) is all point h x has = go e all.0 h.2.may h.2.moves (ran_here c me input past outputs is all.1 h.0 h.1 x)
  where
    go : (e : Entry) → is_output e ≡ true → May c me (outputs ++ input ∷ past) h.0 e → MovesPoint c me (outputs ++ input ∷ past) h.0 e point → (Has (λ y. y ≡ x) h.0.ran → Has (Executes x.kept.number []) outputs)
        → Has (Executes x.kept.number []) (e ∷ outputs)
    go (Executed r number batch) is may move was = pick (has_either (λ (y : Ran). y ≡ x) h.0.ran (ran_in c number h.0.state (requests_of batch)) (subst (λ (q : Point). Has (λ y. y ≡ x) q.ran) move has))
      where
        pick : Has (λ y. y ≡ x) h.0.ran ⊎ Has (λ y. y ≡ x) (ran_in c number h.0.state (requests_of batch)) → Has (Executes x.kept.number []) (Executed r number batch ∷ outputs)
        pick (inl earlier) = inr (was earlier)
        pick (inr now) = inl (sym (ran_of c number h.0.state (requests_of batch) x now).number)
    go (Installed r number root) is may move was = inr (was (subst (λ (rans : List Ran). Has (λ y. y ≡ x) rans) move.ran has))
    go (Sent p bytes) is may move was = inr (was (subst (λ (q : Point). Has (λ y. y ≡ x) q.ran) move has))
    go (Got p bytes) is may move was = absurd (let bad : false ≡ true = is in cc)
    go (Tick p) is may move was = absurd (let bad : false ≡ true = is in cc)
    go (Invoke a b d) is may move was = absurd may
    go (Accepted a b d) is may move was = absurd may

-- the input of the event is the one before its outputs
input_is : (P : List Entry → Entry → Type 0) (input : Entry) (past outputs : List Entry) → is_output input ≡ false → AreOutputs outputs → AtInput P (outputs ++ input ∷ past) → P past input
input_is P input past [] is all h = subst (λ b. either b (AtInput P past) (P past input)) is h
input_is P input past (e ∷ outputs) is all h =
    input_is P input past outputs is all.1 (subst (λ b. either b (AtInput P (outputs ++ input ∷ past)) (P (outputs ++ input ∷ past) e)) all.0 h)

pub replies_to_who_asked : RepliesToWhoAsked
replies_to_who_asked c me client timestamp number answer bytes input outputs past says is all never unasked right =
    go (says_may c me bytes (record { sender = me; message = Reply client timestamp modes.Ordered number answer }) (outputs ++ input ∷ past) right says)
  where
    go : MayReply c me (outputs ++ input ∷ past) right.1.0 client timestamp modes.Ordered number answer → ⊥
    go (inl h) =
        let x = has_some (λ (ran : Ran). reply_of ran.call.client ran.kept ≡ Reply client timestamp modes.Ordered number answer) right.1.0.ran h in
        let r : IsReplyOf x.0.call.client x.0.kept client timestamp number answer = is_reply client timestamp number answer x.0.call.client x.0.kept x.2 in
        never (subst (λ (n : ℕ). Has (Executes n []) outputs) r.2 (ran_here c me input past outputs is all right.1.0 right.1.1 x.0 x.1))
    go (inr h) =
        let asks = input_is (GetsOrdered c me client timestamp) input past outputs is all h.4 in
        unasked asks.0 asks.1

-- Without an installation an ordered reply is of a request that the executed batch of its number has.
use Rattle.std.proofs.Common.{◌≡◌, ℕ, suc, ◌+◌, ◌⊎◌, inl, inr, Bool, true, false, cond, List, [], ◌∷◌, ◌++◌, refl, sym, ap, ◌∙◌, subst, Option, Some, None}
use Rattle.std.specs.Option.{option_map_or}
use Rattle.terms.specs.declared.order.Mode.TheVariants as modes
use Rattle.wire_format.specs.Messages.{reply as Reply}
use Rattle.wire_format.specs.Words.{requests_of}
use Rattle.reply_cache.specs.Replies.{Kept}
use Rattle.protocol.specs.System.Configuration.{Configuration}
use Rattle.protocol.specs.System.Trace.{Entry, Once, Always, Has}
use Rattle.protocol.specs.System.Trace.Entry.{Invoke, Got, Tick, Executed, Installed, Sent, Accepted}
use Rattle.protocol.specs.Replica.State.{State, Call, Ran, call_of, runs, kept_by, kept_of, run_frame, ran_by, ran_in, execute}
use Rattle.protocol.specs.Replica.RightReplica.{Point, HistoryReaches, May, MovesPoint, MayReply, reply_of}
use Rattle.protocol.specs.Replica.Owed.{HasRequest}
use Rattle.evidence.specs.Refused.{RepliesOfExecuted, ExecutesRequest, NoInstallation, IsReplyOf}
use Rattle.protocol.proofs.Points.Keeping.{Keeps, frames_kept, executed_kept}
use Rattle.protocol.proofs.Words.Leaving.{none_kept}
use Rattle.evidence.proofs.Refusing.{is_reply}
use Rattle.evidence.proofs.RefusingRuns.{says_may}
use Rattle.protocol.proofs.Words.Elements.{has_either, has_some}

-- a request that ran is in one of the frames, and its reply is kept under the number
pub record RanOf (c : Configuration) (k : ℕ) (frames : List (List ℕ)) (x : Ran) : Type 0 where
  pub number : x.kept.number ≡ k
  time : x.kept.timestamp ≡ x.call.timestamp
  frame : Has (λ frame. call_of c frame ≡ Some x.call) frames

pub ran_of : (c : Configuration) (k : ℕ) (st : State) (frames : List (List ℕ)) (x : Ran) → Has (λ y. y ≡ x) (ran_in c k st frames) → RanOf c k frames x
ran_of c k st [] x h = absurd h
ran_of c k st (frame ∷ frames) x h = go (call_of c frame) refl h (ran_of c k (run_frame c k st frame) frames x)
  where
    test : (call : Call) → call_of c frame ≡ Some call → (b : Bool) (rest : List Ran) → (Has (λ y. y ≡ x) rest → RanOf c k frames x)
        → Has (λ y. y ≡ x) (cond b (record { call = call; kept = kept_by st k call } ∷ []) [] ++ rest) → RanOf c k (frame ∷ frames) x
    test call is false rest below h = record { number = (below h).number; time = (below h).time; frame = inr (below h).frame }
    test call is true rest below (inr h) = record { number = (below h).number; time = (below h).time; frame = inr (below h).frame }
    test call is true rest below (inl h) = record {
      number = sym (ap (λ (y : Ran). y.kept.number) h);
      time = sym (ap (λ (y : Ran). y.kept.timestamp) h) ∙ ap (λ (y : Ran). y.call.timestamp) h;
      frame = inl (is ∙ ap (λ (y : Ran). Some y.call) h);
    }

    go : (o : Option Call) → call_of c frame ≡ o → Has (λ y. y ≡ x) (option_map_or (ran_by st k) o [] ++ ran_in c k (run_frame c k st frame) frames)
        → (Has (λ y. y ≡ x) (ran_in c k (run_frame c k st frame) frames) → RanOf c k frames x) → RanOf c k (frame ∷ frames) x
    go None e h below = record { number = (below h).number; time = (below h).time; frame = inr (below h).frame }
    go (Some call) e h below = test call e (runs st call) (ran_in c k (run_frame c k st frame) frames) below h

has_request : (c : Configuration) (k : ℕ) (batch : List ℕ) (x : Ran) → RanOf c k (requests_of batch) x → HasRequest c x.call.client x.kept.timestamp batch
has_request c k batch x r = each (requests_of batch) r.frame
  where
    each : (frames : List (List ℕ)) → Has (λ frame. call_of c frame ≡ Some x.call) frames
        → Has (λ frame. (call : Call) × (call_of c frame ≡ Some call) × (call.client ≡ x.call.client) × (call.timestamp ≡ x.kept.timestamp)) frames
    each [] h = h
    each (frame ∷ frames) (inl h) = inl (x.call, h, refl, sym r.time)
    each (frame ∷ frames) (inr h) = inr (each frames h)

-- each request that the replica ran in the event, and each kept reply, is from an executed batch
record OfExecuted (c : Configuration) (past : List Entry) (point : Point) : Type 0 where
  ran : (x : Ran) → Has (λ y. y ≡ x) point.ran → Once (ExecutesRequest c x.kept.number x.call.client x.kept.timestamp) past
  kept : (k : ℕ) (kept : Kept) → kept_of point.state k ≡ Some kept → Once (ExecutesRequest c kept.number k kept.timestamp) past

of_executed : (c : Configuration) (me : ℕ) (xs : List Entry) → Always NoInstallation xs → (point : Point) → HistoryReaches c me xs point → OfExecuted c xs point
of_executed c me [] none point h = record {
  ran = λ x has. subst (λ (p : Point). Has (λ y. y ≡ x) p.ran) h has;
  kept = λ k kept is. absurd (let none : None ≡ Some kept = sym (none_kept k) ∙ subst (λ (p : Point). kept_of p.state k ≡ Some kept) h is in cc);
}
of_executed c me (e ∷ past) none point h = go e h.2.may h.2.moves none.0 (of_executed c me past none.1 h.0 h.1)
  where
    quiet : (e : Entry) → point.state ≡ h.0.state → ((x : Ran) → Has (λ y. y ≡ x) point.ran → Has (λ y. y ≡ x) h.0.ran) → OfExecuted c past h.0 → OfExecuted c (e ∷ past) point
    quiet e same rans was = record {
      ran = λ x has. inr (was.ran x (rans x has));
      kept = λ k kept is. inr (was.kept k kept (subst (λ (st : State). kept_of st k ≡ Some kept) same is));
    }

    no_rans : point.ran ≡ [] → (x : Ran) → Has (λ y. y ≡ x) point.ran → Has (λ y. y ≡ x) h.0.ran
    no_rans is x has = absurd (subst (λ (rans : List Ran). Has (λ y. y ≡ x) rans) is has)

    go : (e : Entry) → May c me past h.0 e → MovesPoint c me past h.0 e point → NoInstallation past e → OfExecuted c past h.0 → OfExecuted c (e ∷ past) point
    go (Got p bytes) may move n was = quiet (Got p bytes) (ap (λ (q : Point). q.state) move) (no_rans (ap (λ (q : Point). q.ran) move)) was
    go (Tick p) may move n was = quiet (Tick p) (ap (λ (q : Point). q.state) move) (no_rans (ap (λ (q : Point). q.ran) move)) was
    go (Sent p bytes) may move n was = quiet (Sent p bytes) (ap (λ (q : Point). q.state) move) (λ x has. subst (λ (q : Point). Has (λ y. y ≡ x) q.ran) move has) was
    go (Installed p k root) may move n was = absurd n
    go (Invoke x y z) may move n was = absurd may
    go (Accepted x y z) may move n was = absurd may
    go (Executed p number batch) may move n was = record { ran = now_ran; kept = now_kept }
      where
        now_ran : (x : Ran) → Has (λ y. y ≡ x) point.ran → Once (ExecutesRequest c x.kept.number x.call.client x.kept.timestamp) (Executed p number batch ∷ past)
        now_ran x has = pick (has_either (λ (y : Ran). y ≡ x) h.0.ran (ran_in c number h.0.state (requests_of batch)) (subst (λ (q : Point). Has (λ y. y ≡ x) q.ran) move has))
          where
            pick : Has (λ y. y ≡ x) h.0.ran ⊎ Has (λ y. y ≡ x) (ran_in c number h.0.state (requests_of batch)) → Once (ExecutesRequest c x.kept.number x.call.client x.kept.timestamp) (Executed p number batch ∷ past)
            pick (inl earlier) = inr (was.ran x earlier)
            pick (inr now) = let r = ran_of c number h.0.state (requests_of batch) x now in inl (sym r.number, has_request c number batch x r)

        now_kept : (k : ℕ) (kept : Kept) → kept_of point.state k ≡ Some kept → Once (ExecutesRequest c kept.number k kept.timestamp) (Executed p number batch ∷ past)
        now_kept k kept is =
            let there : kept_of (execute c h.0.state batch) k ≡ Some kept = subst (λ (q : Point). kept_of q.state k ≡ Some kept) move is in
            pick (frames_kept c (suc h.0.state.number) h.0.state (requests_of batch) k kept (sym (executed_kept c h.0.state batch k) ∙ there))
          where
            pick : (kept_of h.0.state k ≡ Some kept) ⊎ Has (Keeps k kept (suc h.0.state.number)) (ran_in c (suc h.0.state.number) h.0.state (requests_of batch))
                → Once (ExecutesRequest c kept.number k kept.timestamp) (Executed p number batch ∷ past)
            pick (inl earlier) = inr (was.kept k kept earlier)
            pick (inr now) =
                let x = has_some (Keeps k kept (suc h.0.state.number)) (ran_in c (suc h.0.state.number) h.0.state (requests_of batch)) now in
                let r = ran_of c (suc h.0.state.number) h.0.state (requests_of batch) x.0 x.1 in
                inl (
                  may.next ∙ sym x.2.2,
                  subst (λ (y : Kept). HasRequest c k y.timestamp batch) x.2.0
                      (subst (λ (cl : ℕ). HasRequest c cl x.0.kept.timestamp batch) x.2.1 (has_request c (suc h.0.state.number) batch x.0 r)),
                )

pub replies_of_executed : RepliesOfExecuted
replies_of_executed c me client timestamp number answer bytes past says none right =
    go (says_may c me bytes (record { sender = me; message = Reply client timestamp modes.Ordered number answer }) past right says)
  where
    given : (k : ℕ) (kept : Kept) → Once (ExecutesRequest c kept.number k kept.timestamp) past → reply_of k kept ≡ Reply client timestamp modes.Ordered number answer
        → (k : ℕ) × (client ≡ 256 + k) × Once (ExecutesRequest c number k timestamp) past
    given k kept h is =
        let r : IsReplyOf k kept client timestamp number answer = is_reply client timestamp number answer k kept is in
        (k, r.0, subst (λ (t : ℕ). Once (ExecutesRequest c number k t) past) r.1 (subst (λ (n : ℕ). Once (ExecutesRequest c n k kept.timestamp) past) r.2 h))

    go : MayReply c me past right.1.0 client timestamp modes.Ordered number answer → (k : ℕ) × (client ≡ 256 + k) × Once (ExecutesRequest c number k timestamp) past
    go (inl h) =
        let x = has_some (λ (ran : Ran). reply_of ran.call.client ran.kept ≡ Reply client timestamp modes.Ordered number answer) right.1.0.ran h in
        given x.0.call.client x.0.kept ((of_executed c me past none right.1.0 right.1.1).ran x.0 x.1) x.2
    go (inr h) = given h.0 h.1 ((of_executed c me past none right.1.0 right.1.1).kept h.0 h.1 h.2) h.3

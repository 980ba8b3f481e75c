-- If no party is faulty and received frames were sent, each frame that was seen, alone or carried, is from its
-- sender.
use Rattle.std.proofs.Common.{◌≡◌, ℕ, ◌-◌, ◌⊎◌, inl, inr, Bool, true, false, cond, ◌==◌, ◌||◌, ◌&&◌, not, Option, Some, None, List, [], ◌∷◌, refl, ap, sym, ◌∙◌, subst}
use Rattle.std.proofs.lemmas.Bool.{or_cases}
use Rattle.std.specs.Option.{option_map_or}
use Rattle.wire_format.specs.Lists.{Each}
use Rattle.terms.specs.declared.order.Mode.{Mode}
use Rattle.wire_format.specs.Messages.{BodyData as Body, request as Request}
use Rattle.wire_format.specs.Words.{said, carried}
use Rattle.quorum.specs.Quorum.{member}
use Rattle.protocol.specs.System.Configuration.{Configuration, is_replica, is_client, is_correct, is_correct_replica, is_correct_client}
use Rattle.protocol.specs.System.Trace.{Entry, party_of, history_of, Once, Always, Has, frames_in, SendsBody, IsFromSender, IsUnforgedAt, Unforged}
use Rattle.protocol.specs.System.Trace.Entry.{Got, Sent}
use Rattle.protocol.specs.Replica.RightReplica.{Point, HasSeen, SafeReplica, MaySend}
use Rattle.protocol.specs.Client.RightClient.{OpenCall, SafeClient}
use Rattle.protocol.proofs.Words.Elements.{each_has}
use Rattle.protocol.proofs.Words.Linking.{heard_said, signed_said}
use Rattle.protocol.proofs.Words.Reacting.{is_replica_right, is_client_right, asks_its_call}
use Rattle.protocol.proofs.Words.Temporal.{once_weaker, once_in_trace}
use Rattle.journal.specs.Carrying.{is_faulty, is_exempt, EntrySendsBytes, IsCarriedAt}
use Rattle.journal.specs.Laws.{CarriedIsUnforged}
use Rattle.journal.proofs.Events.{own_entry}

-- ---- exempt bytes are no frame

none_faulty : (c : Configuration) (p : ℕ) → c.faulty_replicas ≡ [] → c.faulty_clients ≡ [] → is_faulty c p ≡ false
none_faulty c p replicas clients =
    let r : is_correct_replica c p ≡ (is_replica c p && true) = ap (λ (xs : List ℕ). is_replica c p && not (member xs p)) replicas in
    let k : is_correct_client c p ≡ (is_client c p && true) = ap (λ (xs : List ℕ). is_client c p && not (member xs (p - 256))) clients in
    ap (λ (b : Bool). (is_replica c p || is_client c p) && not (b || is_correct_client c p)) r
    ∙ (ap (λ (b : Bool). (is_replica c p || is_client c p) && not ((is_replica c p && true) || b)) k ∙ go (is_replica c p) (is_client c p))
  where
    go : (a b : Bool) → ((a || b) && not ((a && true) || (b && true))) ≡ false
    go true b = refl
    go false true = refl
    go false false = refl

exempt_says : (c : Configuration) (bytes : List ℕ) → c.faulty_replicas ≡ [] → c.faulty_clients ≡ [] → is_exempt c bytes ≡ true → said bytes ≡ None
exempt_says c bytes replicas clients exempt = go (said bytes) refl
  where
    go : (o : Option Body) → said bytes ≡ o → said bytes ≡ None
    go None is = is
    go (Some body) is =
        let faulty : is_faulty c body.sender ≡ true = ap (λ (o : Option Body). option_map_or (λ b. is_faulty c b.sender) o true) (sym is) ∙ exempt in
        absurd (cc (none_faulty c body.sender replicas clients))

-- ---- frames that were seen

-- whoever the frame names as sender sent such a body
abbrev IsSent : List Entry → List ℕ → Type 0
IsSent past frame = (body : Body) → said frame ≡ Some body → Once (SendsBody body) past

-- each frame that was seen, alone or carried
abbrev AllSent : List Entry → Type 0
AllSent past = (frame : List ℕ) → Once (HasSeen frame) past → IsSent past frame

-- a frame in bytes that were sent was seen
seen_of_sent : (past : List Entry) (bytes frame : List ℕ) → Has (EntrySendsBytes bytes) past → Has (λ x. x ≡ frame) (frames_in bytes) → Once (HasSeen frame) past
seen_of_sent [] bytes frame h there = absurd h
seen_of_sent (e ∷ past) bytes frame (inr h) there = inr (seen_of_sent past bytes frame h there)
seen_of_sent (Sent p text ∷ past) bytes frame (inl is) there = inl (subst (λ (x : List ℕ). Has (λ y. y ≡ frame) (frames_in x)) (sym is) there)
seen_of_sent (_ ∷ past) bytes frame (inl is) there = absurd is

-- a frame in bytes that say nothing says nothing
nothing_said : (bytes frame : List ℕ) → said bytes ≡ None → Has (λ x. x ≡ frame) (frames_in bytes) → (body : Body) → said frame ≡ Some body → ⊥
nothing_said bytes frame none (inl same) body says = let here : said bytes ≡ Some body = ap said same ∙ says in absurd (cc (none, here))
nothing_said bytes frame none (inr there) body says =
    subst (Has (λ x. x ≡ frame)) (ap (λ (o : Option Body). option_map_or (λ b. carried b.message) o []) none) there

-- a request of the client's
abbrev asked : ℕ → Mode → OpenCall → Body
asked p mode call = record { sender = p; message = Request call.timestamp mode call.op }

module _ (c : Configuration) (replicas : c.faulty_replicas ≡ []) (clients : c.faulty_clients ≡ []) where
  -- frames in received bytes
  got_sent : (past : List Entry) (p : ℕ) (bytes frame : List ℕ) → AllSent past → IsCarriedAt c past (Got p bytes) → Has (λ x. x ≡ frame) (frames_in bytes) → IsSent past frame
  got_sent past p bytes frame all (inl sent) there = all frame (seen_of_sent past bytes frame sent there)
  got_sent past p bytes frame all (inr exempt) there = λ body says. absurd (nothing_said bytes frame (exempt_says c bytes replicas clients exempt) there body says)

  -- the properties of a trace and of each earlier one
  pub record Stands (trace : List Entry) : Type 0 where
    pub safe : (p : ℕ) → is_correct_replica c p ≡ true → SafeReplica c p (history_of p trace)
    pub asks : (p : ℕ) → is_correct_client c p ≡ true → SafeClient c p (history_of p trace)
    pub parties : Always (λ past e. is_correct c (party_of e) ≡ true) trace
    pub carried : Always (IsCarriedAt c) trace

  earlier : (P : List Entry → Type 0) → ((e : Entry) (h : List Entry) → P (e ∷ h) → P h) → (p : ℕ) (e : Entry) (past : List Entry) → P (history_of p (e ∷ past)) → P (history_of p past)
  earlier P less p e past h = go (party_of e == p) h
    where
      go : (b : Bool) → P (cond b (e ∷ history_of p past) (history_of p past)) → P (history_of p past)
      go true h = less e (history_of p past) h
      go false h = h

  before : (e : Entry) (past : List Entry) → Stands (e ∷ past) → Stands past
  before e past s = record {
    safe = λ p at. earlier (SafeReplica c p) (λ e h safe. (safe.1.0, safe.1.1)) p e past (s.safe p at);
    asks = λ p at. earlier (SafeClient c p) (λ e h right. right.1) p e past (s.asks p at);
    parties = s.parties.1;
    carried = s.carried.1;
  }

  -- a correct replica sends a frame as its own sender, and it has seen the frames that it carries
  replica_sent : (past : List Entry) (p : ℕ) (bytes frame : List ℕ) → AllSent past → SafeReplica c p (history_of p (Sent p bytes ∷ past)) → Has (λ x. x ≡ frame) (frames_in bytes) → IsSent (Sent p bytes ∷ past) frame
  replica_sent past p bytes frame all safe there =
      let own : SafeReplica c p (Sent p bytes ∷ history_of p past) = subst (SafeReplica c p) (own_entry p (Sent p bytes) past refl) safe in
      go own.1.0 own.1.2.may there
    where
      go : (point : Point) → MaySend c p (history_of p past) point (Sent p bytes) bytes → Has (λ x. x ≡ frame) (frames_in bytes) → IsSent (Sent p bytes ∷ past) frame
      go point may (inl same) body says =
          let here : said bytes ≡ Some body = ap said same ∙ says in
          let is : may.body ≡ body = cc (may.says, here) in
          inl (sym may.own ∙ ap (λ (b : Body). b.sender) is, here)
      go point may (inr there) body says =
          let inside : Has (λ x. x ≡ frame) (carried may.body.message) = subst (Has (λ x. x ≡ frame)) (ap (λ (o : Option Body). option_map_or (λ b. carried b.message) o []) may.says) there in
          let seen : Once (HasSeen frame) (history_of p past) = each_has (λ x. Once (HasSeen x) (history_of p past)) (carried may.body.message) frame may.seen inside in
          inr (all frame (in_trace seen) body says)
        where
          same_anywhere : (earlier past : List Entry) (e : Entry) → HasSeen frame earlier e → HasSeen frame past e
          same_anywhere earlier past (Got q text) h = h
          same_anywhere earlier past (Sent q text) h = h
          same_anywhere earlier past _ h = absurd h

          in_trace : Once (HasSeen frame) (history_of p past) → Once (HasSeen frame) past
          in_trace h =
              once_weaker (λ before e. (party_of e ≡ p) × HasSeen frame (history_of p before) e) (HasSeen frame)
              (λ before e x. same_anywhere (history_of p before) before e x.1) past (once_in_trace (HasSeen frame) p past h)

  -- a correct client sends its requests, which carry nothing
  client_sent : (past : List Entry) (p : ℕ) (bytes frame : List ℕ) → SafeClient c p (history_of p (Sent p bytes ∷ past)) → Has (λ x. x ≡ frame) (frames_in bytes) → IsSent (Sent p bytes ∷ past) frame
  client_sent past p bytes frame safe there body says =
      let own : SafeClient c p (Sent p bytes ∷ history_of p past) = subst (SafeClient c p) (own_entry p (Sent p bytes) past refl) safe in
      let call = asks_its_call c p bytes (history_of p past) own in
      go call.0 call.1 call.2 there
    where
      go : (mode : Mode) (call : OpenCall) → said bytes ≡ Some (asked p mode call) → Has (λ x. x ≡ frame) (frames_in bytes) → Once (SendsBody body) (Sent p bytes ∷ past)
      go mode call is (inl same) =
          let here : said bytes ≡ Some body = ap said same ∙ says in
          let whole : asked p mode call ≡ body = cc (is, here) in
          inl (ap (λ (b : Body). b.sender) whole, here)
      go mode call is (inr inside) = absurd (subst (Has (λ x. x ≡ frame)) (ap (λ (o : Option Body). option_map_or (λ b. carried b.message) o []) is) inside)

  -- frames in bytes that a correct party sends
  party_sent : (past : List Entry) (p : ℕ) (bytes frame : List ℕ) → AllSent past → Stands (Sent p bytes ∷ past) → Has (λ x. x ≡ frame) (frames_in bytes) → IsSent (Sent p bytes ∷ past) frame
  party_sent past p bytes frame all s there = go (or_cases (is_correct_replica c p) (is_correct_client c p) s.parties.0)
    where
      go : (is_correct_replica c p ≡ true) ⊎ (is_correct_client c p ≡ true) → IsSent (Sent p bytes ∷ past) frame
      go (inl at) = replica_sent past p bytes frame all (s.safe p at) there
      go (inr at) = client_sent past p bytes frame (s.asks p at) there

  all_sent : (trace : List Entry) → Stands trace → AllSent trace
  all_sent [] s frame seen body says = absurd seen
  all_sent (e ∷ past) s frame (inr seen) body says = inr (all_sent past (before e past s) frame seen body says)
  all_sent (Got p bytes ∷ past) s frame (inl there) body says = inr (got_sent past p bytes frame (all_sent past (before (Got p bytes) past s)) s.carried.0 there body says)
  all_sent (Sent p bytes ∷ past) s frame (inl there) body says = party_sent past p bytes frame (all_sent past (before (Sent p bytes) past s)) s there body says
  all_sent (_ ∷ past) s frame (inl there) body says = absurd there

  -- ---- so nothing is forged

  each_of : (P : List ℕ → Type 0) (xs : List (List ℕ)) → ((x : List ℕ) → Has (λ y. y ≡ x) xs → P x) → Each P xs
  each_of P [] h = tt
  each_of P (x ∷ xs) h = (h x (inl refl), each_of P xs (λ y there. h y (inr there)))

  from_sender : (me : ℕ) (past : List Entry) (frame : List ℕ) → IsSent past frame → IsFromSender c me past frame
  from_sender me past frame sent = record {
    receives = λ body authentic correct. sent body (heard_said c me frame body authentic);
    signed = λ body signed correct. sent body (signed_said c frame body signed);
  }

  unforged_at : (past : List Entry) (e : Entry) → AllSent past → IsCarriedAt c past e → IsUnforgedAt c past e
  unforged_at past (Got me bytes) all by =
      λ correct. each_of (IsFromSender c me past) (frames_in bytes) (λ frame there. from_sender me past frame (got_sent past me bytes frame all by there))
  unforged_at past _ all by = tt

  pub all_unforged : (trace : List Entry) → Stands trace → Unforged c trace
  all_unforged [] s = tt
  all_unforged (e ∷ past) s = (unforged_at past e (all_sent past (before e past s)) s.carried.0, all_unforged past (before e past s))

pub unforged : CarriedIsUnforged
unforged c trace replicas clients run carried = all_unforged c replicas clients trace (record {
  safe = λ p at. is_replica_right c p (history_of p trace) (run.replicas p at);
  asks = λ p at. is_client_right c p (history_of p trace) (run.clients p at);
  parties = run.parties;
  carried = carried.each;
})

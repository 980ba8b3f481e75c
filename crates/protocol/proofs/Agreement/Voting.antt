-- From the votes that a replica counts to the batches that the voters had logged.
use Rattle.std.proofs.Common.{◌≡◌, ℕ, ◌⊎◌, inl, inr, Bool, true, false, cond, List, [], ◌∷◌, Option, Some, None, not, refl, sym, ap, ◌∙◌, subst, ◌&&◌, eqb-true}
use Rattle.std.specs.Prelude.{option_and_then, ◌==◌}
use Rattle.std.proofs.lemmas.Bool.{and_parts}
use Rattle.sha2.specs.Sha256.{sha256}
use Rattle.protocol.specs.System.Configuration.{Configuration, is_correct, is_correct_replica, primary, members}
use Rattle.wire_format.specs.Messages.{BodyData as Body, MessageData as Message, pre_prepare as PrePrepare, prepare as Prepare}
use Rattle.signing.specs.AuthenticBody.{authentic}
use Rattle.protocol.specs.System.Trace.{Entry, party_of, history_of, Once, Always, Unforged, Receives}
use Rattle.protocol.specs.System.Trace.Entry.{Invoke, Got, Sent}
use Rattle.protocol.specs.Replica.Certificates.{proposal, logged, batch_from, are_genuine, prepare_from, vote_in, prepare_of, brought, counts_at}
use Rattle.protocol.specs.Replica.RightReplica.{Point, HistoryReaches, May, MaySendMessage, MayPrepare, SafeReplica}
use Rattle.protocol.specs.Laws.Histories.{AreReplicasSafe}
use Rattle.protocol.proofs.Words.Temporal.{once_weaker, once_always, once_stays}
use Rattle.protocol.proofs.Words.Options.{and_then_some, then_some_gives, given_stays, given_once, some_injective}
use Rattle.protocol.proofs.Words.Linking.{Speaks, heard_was_said}

-- ---- a right history is right at each entry

pub record RightAt (c : Configuration) (me : ℕ) (past : List Entry) (e : Entry) : Type 0 where
  pub point : Point
  pub own : party_of e ≡ me
  pub leaves : HistoryReaches c me past point
  pub may : May c me past point e

pub right_always : (c : Configuration) (me : ℕ) (xs : List Entry) (point : Point) → HistoryReaches c me xs point → Always (RightAt c me) xs
right_always c me [] point h = tt
right_always c me (e ∷ past) point h = (record { point = h.0; own = h.2.own; leaves = h.1; may = h.2.may }, right_always c me past h.0 h.1)

pub once_right : (c : Configuration) (me : ℕ) (Q : List Entry → Entry → Type 0) (xs : List Entry) → SafeReplica c me xs → Once Q xs
    → Once (λ past e. RightAt c me past e × Q past e × Always (RightAt c me) past) xs
once_right c me Q xs right h = once_always (RightAt c me) Q xs (right_always c me xs right.0 right.1) h

-- ---- votes

abbrev pub preparing : ℕ → ℕ → ℕ → List ℕ → Body
preparing s v i digest = record { sender = s; message = Prepare v i digest }

-- a message that proposes a batch is a pre-prepare of the view's primary
pub batch_is : (c : Configuration) (me v i : ℕ) (batch : List ℕ) (sender : ℕ) (message : Message) → batch_from c me v i (record { sender = sender; message = message }) ≡ Some batch
    → (message ≡ PrePrepare v i batch) × (sender ≡ primary c v) × (are_genuine c me batch ≡ true)
batch_is c me v i batch sender (PrePrepare w k b) h =
    let g = then_some_gives ((w == v) && (k == i) && (sender == primary c v) && are_genuine c me b) b batch h in
    let p = and_parts ((w == v) && (k == i) && (sender == primary c v)) (are_genuine c me b) g.0 in
    let q = and_parts ((w == v) && (k == i)) (sender == primary c v) p.0 in
    let r = and_parts (w == v) (k == i) q.0 in
    let ev : w ≡ v = eqb-true w v r.0 in
    let ei : k ≡ i = eqb-true k i r.1 in
    (rw (ev, ei, g.1) refl, eqb-true sender (primary c v) q.1, subst (λ (x : List ℕ). are_genuine c me x ≡ true) g.1 p.1)
batch_is c me v i batch sender _ h = absurd cc

pub prepare_is : (c : Configuration) (s v i : ℕ) (d : List ℕ) (sender : ℕ) (message : Message) → prepare_from c s v i (record { sender = sender; message = message }) ≡ Some d
    → (◌≡◌ {A = Body} (record { sender = sender; message = message }) (preparing s v i d)) × (not (s == primary c v) ≡ true)
prepare_is c s v i d sender (Prepare view number digest) h =
    let g = then_some_gives ((sender == s) && (view == v) && (number == i) && not (s == primary c v)) digest d h in
    let o = and_parts ((sender == s) && (view == v) && (number == i)) (not (s == primary c v)) g.0 in
    let p = and_parts ((sender == s) && (view == v)) (number == i) o.0 in
    let q = and_parts (sender == s) (view == v) p.0 in
    let es : sender ≡ s = eqb-true sender s q.0 in
    let ev : view ≡ v = eqb-true view v q.1 in
    let ei : number ≡ i = eqb-true number i p.1 in
    (rw (es, ev, ei, g.1) refl, o.1)
prepare_is c s v i d sender _ h = absurd cc

-- the entry brings the body: the party receives or sends it
abbrev pub Brings : Configuration → Body → List Entry → Entry → Type 0
Brings c body past e = brought c e ≡ Some body

-- the body in which a vote was
pub vote_brought : (c : Configuration) (me v i : ℕ) (d : List ℕ) (vote : Body → Option (List ℕ)) (past : List Entry) (e : Entry) → vote_in c me past e vote v i ≡ Some d
    → (body : Body) × (brought c e ≡ Some body) × (vote body ≡ Some d)
vote_brought c me v i d vote past e h = go (counts_at c me past e v i) h
  where
    go : (b : Bool) → cond b (option_and_then vote (brought c e)) None ≡ Some d → (body : Body) × (brought c e ≡ Some body) × (vote body ≡ Some d)
    go true h = and_then_some vote (brought c e) d h
    go false h = absurd cc

vote_source : (c : Configuration) (me s v i : ℕ) (d : List ℕ) (past : List Entry) (e : Entry) → vote_in c me past e (prepare_from c s v i) v i ≡ Some d
    → Brings c (preparing s v i d) past e × (not (s == primary c v) ≡ true)
vote_source c me s v i d past e h =
    let r = vote_brought c me v i d (prepare_from c s v i) past e h in
    let is = prepare_is c s v i d r.0.sender r.0.message r.2 in
    (r.1 ∙ ap Some is.0, is.1)

-- the primary sends no prepare
pub primary_votes_not : (c : Configuration) (me v i s : ℕ) (d : List ℕ) (xs : List Entry) → prepare_of c me xs v i s ≡ Some d → not (s == primary c v) ≡ true
unfolding prepare_of
primary_votes_not c me v i s d xs h =
    once_stays (λ past. not (s == primary c v) ≡ true) (λ e past x. x) xs
    (once_weaker (λ past e. vote_in c me past e (prepare_from c s v i) v i ≡ Some d) (λ past e. not (s == primary c v) ≡ true)
    (λ past e t. (vote_source c me s v i d past e t).1) xs (given_once (λ past e. vote_in c me past e (prepare_from c s v i) v i) d xs h))

-- a right replica is the sender in all that it sends
pub speaks_as_itself : (c : Configuration) (me : ℕ) (body : Body) (past : List Entry) (e : Entry) → RightAt c me past e → Speaks body past e → body.sender ≡ me
speaks_as_itself c me body past (Sent p bytes) r h =
    let m = r.may in
    let is : m.body ≡ body = some_injective m.body body (sym m.says ∙ h) in
    rw (← is) m.own
speaks_as_itself c me body past (Invoke x y z) r h = absurd h
speaks_as_itself c me body past _ r h = absurd h

once_either : (P Q : List Entry → Entry → Type 0) (xs : List Entry) → Once (λ past e. P past e ⊎ Q past e) xs → Once P xs ⊎ Once Q xs
once_either P Q [] h = absurd h
once_either P Q (e ∷ past) (inl (inl h)) = inl (inl h)
once_either P Q (e ∷ past) (inl (inr h)) = inr (inl h)
once_either P Q (e ∷ past) (inr h) = go (once_either P Q past h)
  where
    go : Once P past ⊎ Once Q past → Once P (e ∷ past) ⊎ Once Q (e ∷ past)
    go (inl h) = inl (inr h)
    go (inr h) = inr (inr h)

pub correct_replica : (c : Configuration) (p : ℕ) → is_correct_replica c p ≡ true → is_correct c p ≡ true
correct_replica c p h = rw h refl

brings_either : (c : Configuration) (p : ℕ) (body : Body) (past : List Entry) (e : Entry) → party_of e ≡ p → Brings c body past e → Receives c p body past e ⊎ Speaks body past e
brings_either c p body past (Got q bytes) own h = inl (subst (λ (x : ℕ). authentic (members c x) x bytes ≡ Some body) own h)
brings_either c p body past (Sent q bytes) own h = inr h
brings_either c p body past _ own h = absurd cc

-- if a right replica receives a correct replica's body, or sends one itself, the sender sent it
pub brought_was_said : (c : Configuration) (trace : List Entry) (p : ℕ) (body : Body) → AreReplicasSafe c trace → Unforged c trace
    → is_correct_replica c p ≡ true → is_correct_replica c body.sender ≡ true
    → Once (Brings c body) (history_of p trace) → Once (Speaks body) (history_of body.sender trace)
brought_was_said c trace p body right unforged correct from h = go (once_either (Receives c p body) (Speaks body) (history_of p trace) either)
  where
    either : Once (λ past e. Receives c p body past e ⊎ Speaks body past e) (history_of p trace)
    either = once_weaker (λ past e. RightAt c p past e × Brings c body past e × Always (RightAt c p) past) (λ past e. Receives c p body past e ⊎ Speaks body past e)
        (λ past e t. brings_either c p body past e t.0.own t.1) (history_of p trace) (once_right c p (Brings c body) (history_of p trace) (right p correct) h)

    own : Once (λ past e. body.sender ≡ p) (history_of p trace) → body.sender ≡ p
    own h = once_stays (λ past. body.sender ≡ p) (λ e past x. x) (history_of p trace) h

    go : Once (Receives c p body) (history_of p trace) ⊎ Once (Speaks body) (history_of p trace) → Once (Speaks body) (history_of body.sender trace)
    go (inl h) = heard_was_said c trace p body unforged (correct_replica c p correct) (correct_replica c body.sender from) h
    go (inr h) =
        let is : body.sender ≡ p = own (once_weaker (λ past e. RightAt c p past e × Speaks body past e × Always (RightAt c p) past) (λ past e. body.sender ≡ p)
        (λ past e t. speaks_as_itself c p body past e t.0 t.1) (history_of p trace)
        (once_right c p (Speaks body) (history_of p trace) (right p correct) h)) in
        subst (λ (x : ℕ). Once (Speaks body) (history_of x trace)) (sym is) h

-- ---- prepared batches were logged

pub record Logs (c : Configuration) (me v i : ℕ) (d : List ℕ) (past : List Entry) : Type 0 where
  pub batch : List ℕ
  pub is_logged : logged c me past v i ≡ Some batch
  pub digest : sha256 batch ≡ d

pub logged_stays : (c : Configuration) (me v i : ℕ) (batch : List ℕ) (e : Entry) (past : List Entry) → logged c me past v i ≡ Some batch → logged c me (e ∷ past) v i ≡ Some batch
unfolding logged
logged_stays c me v i batch e past h = given_stays (λ earlier e. proposal c me earlier e v i) batch e past h

pub logs_stay : (c : Configuration) (me v i : ℕ) (digest : List ℕ) (e : Entry) (past : List Entry) → Logs c me v i digest past → Logs c me v i digest (e ∷ past)
logs_stay c me v i digest e past h = record { batch = h.batch; is_logged = logged_stays c me v i h.batch e past h.is_logged; digest = h.digest }

pub says_logged : (c : Configuration) (me v i : ℕ) (d : List ℕ) (past : List Entry) (e : Entry) → RightAt c me past e → Speaks (preparing me v i d) past e → Logs c me v i d past
says_logged c me v i d past (Sent p bytes) r h = go r.may.body (some_injective r.may.body (preparing me v i d) (sym r.may.says ∙ h)) r.may.allowed
  where
    go : (body : Body) → body ≡ preparing me v i d → MaySendMessage c me past r.point (Sent p bytes) bytes body.message → Logs c me v i d past
    go body is allowed =
        let m : MayPrepare c me past v i d = subst (λ (x : Body). MaySendMessage c me past r.point (Sent p bytes) bytes x.message) is allowed in
        record { batch = m.batch; is_logged = m.is_logged; digest = m.digest_is }
says_logged c me v i d past _ r h = absurd h

-- a correct replica whose prepare a right replica counts has logged a batch of that digest
pub voter_logs : (c : Configuration) (trace : List Entry) (p s v i : ℕ) (d : List ℕ) → AreReplicasSafe c trace → Unforged c trace
    → is_correct_replica c p ≡ true → is_correct_replica c s ≡ true
    → prepare_of c p (history_of p trace) v i s ≡ Some d → Logs c s v i d (history_of s trace)
unfolding prepare_of
voter_logs c trace p s v i d right unforged correct from h =
    let votes : Once (λ past e. vote_in c p past e (prepare_from c s v i) v i ≡ Some d) (history_of p trace) =
    given_once (λ past e. vote_in c p past e (prepare_from c s v i) v i) d (history_of p trace) h in
    let brings : Once (Brings c (preparing s v i d)) (history_of p trace) =
    once_weaker (λ past e. vote_in c p past e (prepare_from c s v i) v i ≡ Some d) (Brings c (preparing s v i d)) (λ past e t. (vote_source c p s v i d past e t).0) (history_of p trace) votes in
    let says : Once (Speaks (preparing s v i d)) (history_of s trace) = brought_was_said c trace p (preparing s v i d) right unforged correct from brings in
    once_stays (Logs c s v i d) (logs_stay c s v i d) (history_of s trace)
    (once_weaker (λ past e. RightAt c s past e × Speaks (preparing s v i d) past e × Always (RightAt c s) past) (λ past e. Logs c s v i d past)
    (λ past e t. says_logged c s v i d past e t.0 t.1) (history_of s trace)
    (once_right c s (Speaks (preparing s v i d)) (history_of s trace) (right s from) says))

pub logs_agree : (c : Configuration) (me v i : ℕ) (d e : List ℕ) (past : List Entry) → Logs c me v i d past → Logs c me v i e past → d ≡ e
logs_agree c me v i d e past x y =
    let same : x.batch ≡ y.batch = some_injective x.batch y.batch (sym x.is_logged ∙ y.is_logged) in
    sym x.digest ∙ ap sha256 same ∙ y.digest

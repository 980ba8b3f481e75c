-- The entries that answered operations take. The newest entry of a history stands first.
use Rattle.std.proofs.Common.{◌≡◌, ℕ, zero, suc, ◌+◌, ◌-◌, ◌*◌, ◌/◌, ◌%◌, ◌≤◌, ◌<◌, inl, inr, Bool, true, false, cond, ◌||◌, ◌&&◌, ◌==◌, get_or, List, [], ◌∷◌, length, refl, sym, ap, ◌∙◌, subst, arith, Option, Some, None, eq-eqb, eqb-true}
use Rattle.std.specs.Prelude.{slice_get, is_some, nat_lt, nat_le}
use Rattle.std.specs.Bool.{then_some}
use Rattle.std.specs.Option.{option_and_then, option_map_or}
use Rattle.std.proofs.lemmas.Bool.{and_parts, leb-true, ltb-true, ltb-false, lt-ltb, eqb-false}
use Rattle.std.proofs.lemmas.Nat.{div-add-mod'}
use Rattle.tuple_codec.specs.Operations.{Operation, Outcome}
use Rattle.terms.specs.declared.order.Mode.{Mode}
use Rattle.wire_format.specs.Messages.{BodyData as Body, MessageData as Message, reply as Reply}
use Rattle.signing.specs.AuthenticBody.{authentic}
use Rattle.quorum.specs.Quorum.{count_below, member}
use Rattle.quorum.proofs.Counting.{count_members, count_mono}
use Rattle.protocol.specs.System.Configuration.{Configuration, IsConfiguration, replicas, members, is_replica, is_client, is_correct, is_correct_replica, is_correct_client}
use Rattle.protocol.specs.System.Run.{IsRun}
use Rattle.protocol.specs.System.Trace.{Entry, party_of, history_of, Always}
use Rattle.protocol.specs.System.Trace.Entry.{Invoke, Got, Tick, Executed, Installed, Sent, Accepted}
use Rattle.protocol.specs.Client.RightClient.{OpenCall, open_call, Vote, reply_vote, later_vote, latest, is_alike, count_alike, reaction, Reacts, IsClient, MayAccept, SafeClient}
use Rattle.protocol.proofs.Words.Reacting.{is_client_right, one_output}
use Rattle.cluster_run.specs.Answers.{AreAnswered}
use Rattle.cluster_run.specs.Room.{AnsweredOperationsTakeEntries, least_entries}

-- ---- what a client's history has since its latest invocation

-- the senders of the frames that came
abbrev sender_of : Configuration → ℕ → List ℕ → ℕ
sender_of c me bytes = option_map_or (λ body. body.sender) (authentic (members c me) me bytes) 0

abbrev senders : Configuration → ℕ → List Entry → List ℕ
senders c me [] = []
senders c me (Invoke client t op ∷ past) = []
senders c me (Got p bytes ∷ past) = sender_of c me bytes ∷ senders c me past
senders c me (_ ∷ past) = senders c me past

-- how many frames it sent
abbrev sent : List Entry → ℕ
sent [] = 0
sent (Invoke client t op ∷ past) = 0
sent (Sent p bytes ∷ past) = suc (sent past)
sent (_ ∷ past) = sent past

-- how many entries it has, with the invocation, and none once an answer is accepted
abbrev since : List Entry → ℕ
since [] = 0
since (Invoke client t op ∷ past) = 1
since (Accepted client t answer ∷ past) = 0
since (_ ∷ past) = suc (since past)

all_since : (c : Configuration) (me : ℕ) (call : OpenCall) (xs : List Entry) → open_call xs ≡ Some call → 1 + sent xs + length (senders c me xs) ≤ since xs
all_since c me call [] h = absurd cc
all_since c me call (Invoke client t op ∷ past) h = omega arith
all_since c me call (Accepted client t answer ∷ past) h = absurd cc
all_since c me call (Got p bytes ∷ past) h = let k = all_since c me call past h in omega (arith, k)
all_since c me call (Sent p bytes ∷ past) h = let k = all_since c me call past h in omega (arith, k)
all_since c me call (Tick p ∷ past) h = let k = all_since c me call past h in omega (arith, k)
all_since c me call (Executed p n text ∷ past) h = let k = all_since c me call past h in omega (arith, k)
all_since c me call (Installed p n text ∷ past) h = let k = all_since c me call past h in omega (arith, k)

-- ---- a reply that counts came in a frame of its replica

or_left : (x y : Bool) → x ≡ true → (x || y) ≡ true
or_left true y h = refl
or_left false y h = absurd cc

or_right : (x y : Bool) → y ≡ true → (x || y) ≡ true
or_right true y h = refl
or_right false y h = h

-- a body of another sender is no vote of this replica
no_vote : (me t s sender : ℕ) (message : Message) → (sender == s) ≡ false → reply_vote me t s (record { sender = sender; message = message }) ≡ None
no_vote me t s sender (Reply client u mode number answer) e =
    ap (λ b. then_some ((b && (client == me)) && (u == t)) (let v : Vote = record { mode = mode; number = number; answer = answer } in v)) e
no_vote me t s sender _ e = refl

latest_sent : (c : Configuration) (me t : ℕ) (mode : Mode) (s : ℕ) (xs : List Entry) → is_some (latest c me xs t mode s) ≡ true → member (senders c me xs) s ≡ true
unfolding latest
latest_sent c me t mode s [] h = absurd cc
latest_sent c me t mode s (Invoke client u op ∷ past) h = absurd cc
latest_sent c me t mode s (Got p bytes ∷ past) h = go (authentic (members c me) me bytes) h (latest_sent c me t mode s past)
  where
    go : (o : Option Body) → is_some (later_vote mode (option_and_then (reply_vote me t s) o) (latest c me past t mode s)) ≡ true
        → (is_some (latest c me past t mode s) ≡ true → member (senders c me past) s ≡ true)
        → ((option_map_or (λ body. body.sender) o 0 == s) || member (senders c me past) s) ≡ true
    go None h before = or_right (0 == s) (member (senders c me past) s) (before h)
    go (Some body) h before = vote (body.sender == s) refl
      where
        vote : (b : Bool) → (body.sender == s) ≡ b → ((body.sender == s) || member (senders c me past) s) ≡ true
        vote true e = or_left (body.sender == s) (member (senders c me past) s) e
        vote false e =
            or_right (body.sender == s) (member (senders c me past) s)
            (before (subst (λ v. is_some (later_vote mode v (latest c me past t mode s)) ≡ true) (no_vote me t s body.sender body.message e) h))
latest_sent c me t mode s (_ ∷ past) h = latest_sent c me t mode s past h

alike_some : (vote : Vote) (o : Option Vote) → is_alike vote o ≡ true → is_some o ≡ true
alike_some vote None h = absurd cc
alike_some vote (Some v) h = refl

-- no more replicas agree than frames came
count_sent : (c : Configuration) (me t : ℕ) (vote : Vote) (xs : List Entry) → count_alike c me xs t vote ≤ length (senders c me xs)
count_sent c me t vote xs =
    let more = count_mono (λ s. is_alike vote (latest c me xs t vote.mode s)) (member (senders c me xs)) (replicas c)
    (λ s l h. latest_sent c me t vote.mode s xs (alike_some vote (latest c me xs t vote.mode s) h)) in
    let all = count_members (senders c me xs) (replicas c) in
    omega (arith, more, all)

-- ---- an open call was asked for

-- how many of an event's outputs are frames
abbrev frames : List Entry → ℕ
frames [] = 0
frames (Sent p bytes ∷ outputs) = suc (frames outputs)
frames (_ ∷ outputs) = frames outputs

asked : (c : Configuration) (me : ℕ) (call : OpenCall) (outputs xs : List Entry) → Reacts c me 0 (reaction c me) outputs xs → open_call xs ≡ Some call → 1 ≤ sent xs + frames outputs
asked c me call outputs [] h o = absurd cc
asked c me call outputs (Invoke client t op ∷ past) h o = let e = ap frames h.1.1.1 in omega (arith, e)
asked c me call outputs (Got p bytes ∷ past) h o = let k = asked c me call [] past h.1.2 o in omega (arith, k)
asked c me call outputs (Tick p ∷ past) h o = let k = asked c me call [] past h.1.2 o in omega (arith, k)
asked c me call outputs (Sent p bytes ∷ past) h o = omega arith
asked c me call outputs (Executed p n text ∷ past) h o = asked c me call (Executed p n text ∷ outputs) past h.1 o
asked c me call outputs (Installed p n text ∷ past) h o = asked c me call (Installed p n text ∷ outputs) past h.1 o
asked c me call outputs (Accepted client t answer ∷ past) h o = absurd cc

-- ---- the entries of one client

-- how many of the entries are acceptances, and the numbers of the operations that are accepted, with so many clients
abbrev weigh : (Entry → ℕ) → List Entry → ℕ
weigh w [] = 0
weigh w (e ∷ es) = w e + weigh w es

abbrev is_acceptance : Entry → ℕ
is_acceptance (Accepted client t answer) = 1
is_acceptance _ = 0

abbrev acceptances : List Entry → ℕ
acceptances xs = weigh is_acceptance xs

module _ (c : Configuration) (me : ℕ) where
  -- an acceptance comes after the entries that its call takes
  at_acceptance : (past : List Entry) (t : ℕ) (answer : Outcome) → MayAccept c me past t answer → 1 ≤ sent past → least_entries c ≤ suc (since past)
  at_acceptance past t answer may one =
      let enough : 2 * c.faults + 1 ≤ count_alike c me past may.0.timestamp may.1 = leb-true (2 * c.faults + 1) (count_alike c me past may.0.timestamp may.1) may.6 in
      let came = count_sent c me may.0.timestamp may.1 past in
      let all = all_since c me may.0 past may.2 in
      omega (arith, enough, came, all, one)

  -- the entries of all accepted calls, and those of the open one
  abbrev Takes : List Entry → Type 0
  Takes xs = acceptances xs * least_entries c + since xs ≤ length xs

  took : (outputs xs : List Entry) → SafeClient c me xs → Reacts c me 0 (reaction c me) outputs xs → Takes xs
  took outputs [] safe h = omega arith
  took outputs (Invoke client t op ∷ past) safe h = let k = took [] past safe.1 h.1.2 in omega (arith, k)
  took outputs (Got p bytes ∷ past) safe h = let k = took [] past safe.1 h.1.2 in omega (arith, k)
  took outputs (Tick p ∷ past) safe h = let k = took [] past safe.1 h.1.2 in omega (arith, k)
  took outputs (Sent p bytes ∷ past) safe h = let k = took (Sent p bytes ∷ outputs) past safe.1 h.1 in omega (arith, k)
  took outputs (Executed p n text ∷ past) safe h = let k = took (Executed p n text ∷ outputs) past safe.1 h.1 in omega (arith, k)
  took outputs (Installed p n text ∷ past) safe h = let k = took (Installed p n text ∷ outputs) past safe.1 h.1 in omega (arith, k)
  took [] (Accepted client t answer ∷ past) safe h =
      let k = took (Accepted client t answer ∷ []) past safe.1 h.1 in
      let one = asked c me safe.0.1.0 (Accepted client t answer ∷ []) past h.1 safe.0.1.2 in
      let enough = at_acceptance past t answer safe.0.1 (omega (arith, one)) in
      omega (arith, k, enough)
  took (y ∷ outputs) (Accepted client t answer ∷ past) safe h = absurd (one_output c me 0 (Accepted client t answer) y outputs past h.1)

  -- a client that stopped accepts nothing more
  takes : (xs : List Entry) → IsClient c me xs → Takes xs
  takes [] h = omega arith
  takes (e ∷ past) (inl h) = took [] (e ∷ past) (is_client_right c me (e ∷ past) (inl h)) h
  takes (Invoke client t op ∷ past) (inr h) = let k = takes past h.2 in omega (arith, k)
  takes (Got p bytes ∷ past) (inr h) = let k = takes past h.2 in omega (arith, k)
  takes (Tick p ∷ past) (inr h) = let k = takes past h.2 in omega (arith, k)
  takes (Sent p bytes ∷ past) (inr h) = absurd h.1
  takes (Executed p n text ∷ past) (inr h) = absurd h.1
  takes (Installed p n text ∷ past) (inr h) = absurd h.1
  takes (Accepted client t answer ∷ past) (inr h) = absurd h.1

-- ---- the entries of the parties below a number

abbrev below : ℕ → List Entry → List Entry
below p [] = []
below p (e ∷ es) = cond (nat_lt (party_of e) p) (e ∷ below p es) (below p es)

-- the parties below the next number are those below, and the next
one_party_more : (w : Entry → ℕ) (p : ℕ) (es : List Entry) → weigh w (below (suc p) es) ≡ weigh w (below p es) + weigh w (history_of p es)
one_party_more w p [] = refl
one_party_more w p (e ∷ es) = go (nat_lt (party_of e) (suc p)) (nat_lt (party_of e) p) (party_of e == p) refl refl refl (one_party_more w p es)
  where
    q : ℕ
    q = party_of e

    go : (x y z : Bool) → nat_lt q (suc p) ≡ x → nat_lt q p ≡ y → (q == p) ≡ z → weigh w (below (suc p) es) ≡ weigh w (below p es) + weigh w (history_of p es)
        → weigh w (cond x (e ∷ below (suc p) es) (below (suc p) es)) ≡ weigh w (cond y (e ∷ below p es) (below p es)) + weigh w (cond z (e ∷ history_of p es) (history_of p es))
    go true true true a b d h = absurd (let l = ltb-true q p b in let n = eqb-true q p d in omega (arith, l, n))
    go true true false a b d h = omega (arith, h)
    go true false true a b d h = omega (arith, h)
    go true false false a b d h = absurd (let k = ltb-true q (suc p) a in let l = ltb-false q p b in eqb-false q p d (omega (arith, k, l)))
    go false true z a b d h = absurd (let k = ltb-false q (suc p) a in let l = ltb-true q p b in omega (arith, k, l))
    go false false true a b d h = absurd (let k = ltb-false q (suc p) a in let n = eqb-true q p d in omega (arith, k, n))
    go false false false a b d h = h

each_one : (es : List Entry) → weigh (λ e. 1) es ≡ length es
each_one [] = refl
each_one (e ∷ es) = let h = each_one es in omega (arith, h)

-- replicas accept nothing
no_client : (es : List Entry) → acceptances (below 256 es) ≡ 0
no_client [] = refl
no_client (e ∷ es) = go (nat_lt (party_of e) 256) refl (no_client es)
  where
    none : (e : Entry) → party_of e < 256 → is_acceptance e ≡ 0
    none (Accepted client t answer) l = absurd (omega (arith, l))
    none (Invoke client t op) l = refl
    none (Got p bytes) l = refl
    none (Tick p) l = refl
    none (Sent p bytes) l = refl
    none (Executed p n text) l = refl
    none (Installed p n text) l = refl

    go : (b : Bool) → nat_lt (party_of e) 256 ≡ b → acceptances (below 256 es) ≡ 0 → acceptances (cond b (e ∷ below 256 es) (below 256 es)) ≡ 0
    go true is h = let n = none e (ltb-true (party_of e) 256 is) in omega (arith, n, h)
    go false is h = h

-- ---- all accepted operations

-- the number of the operation that is accepted, with so many clients
abbrev numbers : ℕ → List Entry → List ℕ
numbers n [] = []
numbers n (Accepted client t answer ∷ es) = (client + (t - 1) * n) ∷ numbers n es
numbers n (_ ∷ es) = numbers n es

as_many : (n : ℕ) (es : List Entry) → length (numbers n es) ≡ acceptances es
as_many n [] = refl
as_many n (Accepted client t answer ∷ es) = let h = as_many n es in omega (arith, h)
as_many n (Invoke client t op ∷ es) = let h = as_many n es in omega (arith, h)
as_many n (Got p bytes ∷ es) = let h = as_many n es in omega (arith, h)
as_many n (Tick p ∷ es) = let h = as_many n es in omega (arith, h)
as_many n (Sent p bytes ∷ es) = let h = as_many n es in omega (arith, h)
as_many n (Executed p k text ∷ es) = let h = as_many n es in omega (arith, h)
as_many n (Installed p k text ∷ es) = let h = as_many n es in omega (arith, h)

-- an acceptance among the entries has its number among theirs
module _ (n client t : ℕ) (answer : Outcome) where
  abbrev it : Entry
  it = Accepted client t answer

  abbrev number : ℕ
  number = client + (t - 1) * n

  first : (e : Entry) (es : List Entry) → e ≡ it → member (numbers n (e ∷ es)) number ≡ true
  first e es is = subst (λ x. member (numbers n (x ∷ es)) number ≡ true) (sym is) (or_left (number == number) (member (numbers n es) number) (eq-eqb number number refl))

  later : (e : Entry) (es : List Entry) → member (numbers n es) number ≡ true → member (numbers n (e ∷ es)) number ≡ true
  later (Accepted k u a) es h = or_right ((k + (u - 1) * n) == number) (member (numbers n es) number) h
  later _ es h = h

  numbered : (es : List Entry) (k : ℕ) → k < length es → get_or es k it ≡ it → member (numbers n es) number ≡ true
  numbered [] k l e = absurd (omega (arith, l))
  numbered (x ∷ es) zero l e = first x es e
  numbered (x ∷ es) (suc k) l e = later x es (numbered es k (omega (arith, l)) e)

got : {X : Type 0} (xs : List X) (j : ℕ) → j < length xs → (x : X) × (slice_get xs j ≡ Some x)
got [] j l = absurd (omega (arith, l))
got (x ∷ xs) zero l = (x, refl)
got (x ∷ xs) (suc j) l = got xs j (omega (arith, l))

none_left : (a k b : ℕ) → a ≡ 0 → a * k ≤ b
none_left a k b none = subst (λ (n : ℕ). n * k ≤ b) (sym none) (omega arith)

mul_mono : (k a b : ℕ) → a ≤ b → a * k ≤ b * k
mul_mono k zero b l = omega arith
mul_mono k (suc a) zero l = absurd (omega (arith, l))
mul_mono k (suc a) (suc b) l = let h = mul_mono k a b (omega (arith, l)) in omega (arith, h)

all_pass : (p : ℕ → Bool) (n : ℕ) → ((i : ℕ) → i < n → p i ≡ true) → n ≤ count_below p n
all_pass p zero h = omega arith
all_pass p (suc n) h = go (p n) (h n (omega arith)) (all_pass p n (λ i l. h i (omega (arith, l))))
  where
    go : (b : Bool) → b ≡ true → n ≤ count_below p n → suc n ≤ cond b (suc (count_below p n)) (count_below p n)
    go true e k = omega (arith, k)
    go false e k = absurd cc

module _ (c : Configuration) (trace : List Entry) (ops : List Operation) (answers : List Outcome) (valid : IsConfiguration c) (run : IsRun c trace) (answered : AreAnswered trace c.clients ops answers) where
  abbrev top : ℕ
  top = 256 + c.clients

  -- a client that isn't correct has no entries
  no_entries : (p : ℕ) (es : List Entry) → is_correct c p ≡ false → Always (λ past e. is_correct c (party_of e) ≡ true) es → acceptances (history_of p es) ≡ 0
  no_entries p [] wrong all = refl
  no_entries p (e ∷ es) wrong all = go (party_of e == p) refl (no_entries p es wrong all.1)
    where
      apart : party_of e ≡ p → ⊥
      apart same = let both : true ≡ false = sym all.0 ∙ (ap (is_correct c) same ∙ wrong) in cc

      go : (b : Bool) → (party_of e == p) ≡ b → acceptances (history_of p es) ≡ 0 → acceptances (cond b (e ∷ history_of p es) (history_of p es)) ≡ 0
      go true is h = absurd (apart (eqb-true (party_of e) p is))
      go false is h = h

  no_replica : (p : ℕ) → 256 ≤ p → is_correct_replica c p ≡ true → ⊥
  no_replica p high h = let l = ltb-true p (3 * c.faults + 1) (and_parts (is_replica c p) _ h).0 in let m = valid.most in omega (arith, high, l, m)

  -- the entries of one client
  of_client : (p : ℕ) → 256 ≤ p → acceptances (history_of p trace) * least_entries c ≤ length (history_of p trace)
  of_client p high = go (is_correct_replica c p) (is_correct_client c p) refl refl
    where
      go : (x y : Bool) → is_correct_replica c p ≡ x → is_correct_client c p ≡ y → acceptances (history_of p trace) * least_entries c ≤ length (history_of p trace)
      go true y a b = absurd (no_replica p high a)
      go false true a b = let k = takes c p (history_of p trace) (run.clients p b) in omega (arith, k)
      go false false a b =
          none_left (acceptances (history_of p trace)) (least_entries c) (length (history_of p trace))
          (no_entries p trace (ap (λ x. x || is_correct_client c p) a ∙ b) run.parties)

  -- those of all clients below one
  of_clients : (k : ℕ) → acceptances (below (256 + k) trace) * least_entries c ≤ length (below (256 + k) trace)
  of_clients zero = none_left (acceptances (below 256 trace)) (least_entries c) (length (below 256 trace)) (no_client trace)
  of_clients (suc k) =
      let p = 256 + k in
      let before = of_clients k in
      let one = of_client p (omega arith) in
      let more : acceptances (below (suc p) trace) * least_entries c ≡ (acceptances (below p trace) + acceptances (history_of p trace)) * least_entries c =
      ap (λ (n : ℕ). n * least_entries c) (one_party_more is_acceptance p trace) in
      let longer : length (below (suc p) trace) ≡ length (below p trace) + length (history_of p trace) =
      sym (each_one (below (suc p) trace)) ∙ (one_party_more (λ e. 1) p trace ∙ (ap (λ n. n + weigh (λ e. 1) (history_of p trace)) (each_one (below p trace)) ∙ ap (λ n. length (below p trace) + n) (each_one (history_of p trace)))) in
      let all : acceptances (below (suc p) trace) * least_entries c ≤ length (below (suc p) trace) = omega (arith, before, one, more, longer) in
      subst (λ (q : ℕ). acceptances (below q trace) * least_entries c ≤ length (below q trace)) (let next : suc p ≡ 256 + suc k = omega arith in next) all

  -- no party has a higher number
  low : (p : ℕ) → is_correct c p ≡ true → nat_lt p top ≡ true
  low p h = go (is_correct_replica c p) refl h
    where
      go : (b : Bool) → is_correct_replica c p ≡ b → (b || is_correct_client c p) ≡ true → nat_lt p top ≡ true
      go true is k = let l = ltb-true p (3 * c.faults + 1) (and_parts (is_replica c p) _ is).0 in let m = valid.most in lt-ltb p top (omega (arith, l, m))
      go false is k = (and_parts (nat_le 256 p) (nat_lt p top) (and_parts (is_client c p) _ k).0).1

  all_below : (es : List Entry) → Always (λ past e. is_correct c (party_of e) ≡ true) es → below top es ≡ es
  all_below [] all = refl
  all_below (e ∷ es) all = go (nat_lt (party_of e) top) (low (party_of e) all.0) (all_below es all.1)
    where
      go : (b : Bool) → b ≡ true → below top es ≡ es → cond b (e ∷ below top es) (below top es) ≡ e ∷ es
      go true is h = ap (λ xs. e ∷ xs) h
      go false is h = absurd cc

  -- each operation's number is among those of the acceptances
  each_number : (i : ℕ) → i < length ops → member (numbers c.clients trace) i ≡ true
  each_number i l =
      let op = got ops i l in
      let answer = got answers i (omega (arith, l, answered.count)) in
      let there = (answered.each i op.0 answer.0 op.1 answer.1).accepted in
      let n = c.clients in
      let whole = div-add-mod' i n in
      let less : suc (i / n) - 1 ≡ i / n = omega arith in
      let same : i % n + (suc (i / n) - 1) * n ≡ i = ap (λ (k : ℕ). i % n + k * n) less ∙ omega (arith, whole) in
      subst (λ k. member (numbers n trace) k ≡ true) same
      (numbered n (i % n) (suc (i / n)) answer.0 trace there.0 there.1 there.2)

  pub operations_take : length ops * least_entries c ≤ length trace
  operations_take =
      let many = all_pass (member (numbers c.clients trace)) (length ops) each_number in
      let most = count_members (numbers c.clients trace) (length ops) in
      let all = as_many c.clients trace in
      let enough : acceptances trace * least_entries c ≤ length trace = subst (λ es. acceptances es * least_entries c ≤ length es) (all_below trace run.parties) (of_clients c.clients) in
      let fewer : length ops * least_entries c ≤ acceptances trace * least_entries c = mul_mono (least_entries c) (length ops) (acceptances trace) (omega (arith, many, most, all)) in
      omega (arith, enough, fewer)

pub answered_operations_take_entries : AnsweredOperationsTakeEntries
answered_operations_take_entries c trace ops answers valid run answered = operations_take c trace ops answers valid run answered

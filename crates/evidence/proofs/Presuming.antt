-- What the premises of the laws leave open.
use Rattle.std.proofs.Common.{◌≡◌, ℕ, suc, ◌+◌, ◌-◌, ◌≤◌, ◌<◌, ◌⊎◌, inl, inr, Bool, true, false, cond, ◌||◌, not, List, [], ◌∷◌, Option, Some, None, refl, sym, ap, ◌∙◌, subst, arith, eqb-true, eq-eqb}
use Rattle.std.specs.Prelude.{◌==◌, nat_lt, nat_le}
use Rattle.std.specs.List.{concat}
use Rattle.std.specs.Option.{option_map_or}
use Rattle.std.proofs.lemmas.Bool.{and_parts, and_from, ltb-true, lt-ltb, leb-true, le-leb, or_cases, or_right, or_left}
use Rattle.std.proofs.Math.Nat.{mod-eq_of_lt, add-mod_right}
use Rattle.quorum.specs.Quorum.{member}
use Rattle.tuple_codec.specs.Operations.{Operation, IsOperation}
use Rattle.partition_tree.specs.Digests.{inner_digests, page_digests}
use Rattle.wire_format.specs.Messages.{BodyData as Body, MessageData as Message, pre_prepare as PrePrepare, new_view as NewView, meta as Meta, page as Page}
use Rattle.protocol.specs.System.Configuration.{Configuration, IsConfiguration, replicas, is_replica, is_client, is_faulty_replica, is_correct_replica, is_correct_client, is_correct, members, signers}
use Rattle.signing.specs.AuthenticBody.{authentic, signed_body}
use Rattle.protocol.specs.System.Trace.{Entry, party_of, is_output, history_of, Always, Has, Once, SendsBody, IsFromSender, frames_in}
use Rattle.protocol.specs.System.Trace.Entry.{Invoke, Got, Tick, Executed, Installed, Sent}
use Rattle.protocol.specs.Replica.State.{opening, page_text}
use Rattle.protocol.specs.Replica.RightReplica.{waiting_after}
use Rattle.protocol.specs.System.Texts.{IsUnder, InstallsOver, EntryHasBatch, EntryHasPart, batches_of, parts_of}
use Rattle.protocol.specs.System.Texts.IsText.{null, batch, part, page_of, under, installed}
use Rattle.protocol.specs.Laws.Histories.{ExecutesBatch}
use Rattle.protocol.proofs.Words.Taking.{same_all}
use Rattle.protocol.proofs.Agreement.Firsts.{first_executes}
use Rattle.protocol.specs.System.Texts.IsUnder.{inner, top}
use Rattle.protocol.specs.Client.RightClient.{open_call, last_call, MayInput, IsClient}
use Rattle.protocol.specs.Replica.Owed.{IsReplica}
use Rattle.protocol.specs.System.Run.{IsRunBy}
use Rattle.evidence.specs.Premises.{WidestIsValid, NarrowestIsValid, ReplicasAreCorrect, ClientsAreCorrect, CorrectAreBoth, EachIsPrimary, PrimariesReturn, RunsHaveReplicas, RunsHaveClients, RunsGoOn, ReplicasGoOn, RunsTakeCalls, OthersAreUnforged, MayBeTaken, MayBeGot, FramesMayBeGot, FaultyReceiveAnything, IsOpeningText, HasText, BringsText, is_page, is_quiet, TextsAreFew}
use Rattle.protocol.proofs.Words.Temporal.{once_weaker, input_follows}
use Rattle.protocol.proofs.Words.Options.{some_injective}
use Rattle.wire_format.specs.Lists.{Each}

-- ---- configurations

pub widest_is_valid : WidestIsValid
widest_is_valid seed faulty_replicas faulty_clients long few replicas_are replicas_differ clients_are clients_differ = record {
  some_faults = omega arith;
  most = omega arith;
  some_clients = omega arith;
  clients = omega arith;
  seed = long;
  publics = refl;
  period = omega arith;
  period_most = omega arith;
  few = omega arith;
  replicas_are = replicas_are;
  replicas_differ = replicas_differ;
  clients_are = clients_are;
  clients_differ = clients_differ;
}

pub narrowest_is_valid : NarrowestIsValid
narrowest_is_valid seed long = record {
  some_faults = omega arith;
  most = omega arith;
  some_clients = omega arith;
  clients = omega arith;
  seed = long;
  publics = refl;
  period = omega arith;
  period_most = omega arith;
  few = omega arith;
  replicas_are = λ i d l. absurd (omega arith);
  replicas_differ = λ i j d l m. absurd (omega arith);
  clients_are = λ i d l. absurd (omega arith);
  clients_differ = λ i j d l m. absurd (omega arith);
}

-- ---- who is correct

listed : (xs : List ℕ) (x : ℕ) → Has (λ y. y ≡ x) xs → member xs x ≡ true
listed [] x h = absurd h
listed (y ∷ ys) x (inl h) = let e = eq-eqb y x h in rw e refl
listed (y ∷ ys) x (inr h) = go (y == x) (listed ys x h)
  where
    go : (b : Bool) → member ys x ≡ true → (b || member ys x) ≡ true
    go true m = refl
    go false m = m

is_listed : (xs : List ℕ) (x : ℕ) → member xs x ≡ true → Has (λ y. y ≡ x) xs
is_listed [] x h = absurd cc
is_listed (y ∷ ys) x h = go (y == x) refl h (is_listed ys x)
  where
    go : (b : Bool) → (y == x) ≡ b → (b || member ys x) ≡ true → (member ys x ≡ true → Has (λ y. y ≡ x) ys) → (y ≡ x) ⊎ Has (λ y. y ≡ x) ys
    go true is m below = inl (eqb-true y x is)
    go false is m below = inr (below m)

-- no member is what passes
left_out : (xs : List ℕ) (x : ℕ) → not (member xs x) ≡ true → Has (λ y. y ≡ x) xs → ⊥
left_out xs x h has = let m = listed xs x has in let bad : not true ≡ true = subst (λ b. not b ≡ true) m h in absurd cc

is_left_out : (xs : List ℕ) (x : ℕ) → (Has (λ y. y ≡ x) xs → ⊥) → not (member xs x) ≡ true
is_left_out xs x none = go (member xs x) refl
  where
    go : (b : Bool) → member xs x ≡ b → not b ≡ true
    go true is = absurd (none (is_listed xs x is))
    go false is = refl

pub replicas_are_correct : ReplicasAreCorrect
replicas_are_correct c r = (there, back)
  where
    there : is_correct_replica c r ≡ true → (r < replicas c) × (Has (λ s. s ≡ r) c.faulty_replicas → ⊥)
    there h = let k = and_parts (is_replica c r) (not (is_faulty_replica c r)) h in (ltb-true r (replicas c) k.0, left_out c.faulty_replicas r k.1)

    back : (r < replicas c) × (Has (λ s. s ≡ r) c.faulty_replicas → ⊥) → is_correct_replica c r ≡ true
    back h = and_from (is_replica c r) (not (is_faulty_replica c r)) (lt-ltb r (replicas c) h.0) (is_left_out c.faulty_replicas r h.1)

pub clients_are_correct : ClientsAreCorrect
clients_are_correct c k = (there, back)
  where
    there : is_correct_client c (256 + k) ≡ true → (k < c.clients) × (Has (λ l. l ≡ k) c.faulty_clients → ⊥)
    there h =
        let p = and_parts (is_client c (256 + k)) (not (member c.faulty_clients (256 + k - 256))) h in
        let l : 256 + k < 256 + c.clients = ltb-true (256 + k) (256 + c.clients) (and_parts (nat_le 256 (256 + k)) (nat_lt (256 + k) (256 + c.clients)) p.0).1 in
        (omega arith, left_out c.faulty_clients k (subst (λ x. not (member c.faulty_clients x) ≡ true) (omega arith) p.1))

    back : (k < c.clients) × (Has (λ l. l ≡ k) c.faulty_clients → ⊥) → is_correct_client c (256 + k) ≡ true
    back h =
        let l = h.0 in
        let a : 256 ≤ 256 + k = omega arith in
        let b : 256 + k < 256 + c.clients = omega arith in
        and_from (is_client c (256 + k)) (not (member c.faulty_clients (256 + k - 256)))
        (and_from (nat_le 256 (256 + k)) (nat_lt (256 + k) (256 + c.clients)) (le-leb 256 (256 + k) a) (lt-ltb (256 + k) (256 + c.clients) b))
        (subst (λ x. not (member c.faulty_clients x) ≡ true) (sym (omega arith)) (is_left_out c.faulty_clients k h.1))

pub correct_are_both : CorrectAreBoth
correct_are_both c p = (there, back)
  where
    client : is_correct_client c p ≡ true → (k : ℕ) × (p ≡ 256 + k) × (is_correct_client c (256 + k) ≡ true)
    client h =
        let w = and_parts (is_client c p) (not (member c.faulty_clients (p - 256))) h in
        let l : 256 ≤ p = leb-true 256 p (and_parts (nat_le 256 p) (nat_lt p (256 + c.clients)) w.0).0 in
        let same : p ≡ 256 + (p - 256) = omega arith in
        (p - 256, same, subst (λ q. is_correct_client c q ≡ true) same h)

    there : (is_correct_replica c p || is_correct_client c p) ≡ true → (is_correct_replica c p ≡ true) ⊎ ((k : ℕ) × (p ≡ 256 + k) × (is_correct_client c (256 + k) ≡ true))
    there h = go (or_cases (is_correct_replica c p) (is_correct_client c p) h)
      where
        go : (is_correct_replica c p ≡ true) ⊎ (is_correct_client c p ≡ true) → (is_correct_replica c p ≡ true) ⊎ ((k : ℕ) × (p ≡ 256 + k) × (is_correct_client c (256 + k) ≡ true))
        go (inl h) = inl h
        go (inr h) = inr (client h)

    back : (is_correct_replica c p ≡ true) ⊎ ((k : ℕ) × (p ≡ 256 + k) × (is_correct_client c (256 + k) ≡ true)) → (is_correct_replica c p || is_correct_client c p) ≡ true
    back (inl h) = or_left (is_correct_replica c p) (is_correct_client c p) h
    back (inr h) = or_right (is_correct_replica c p) (is_correct_client c p) (subst (λ q. is_correct_client c q ≡ true) (sym h.1) h.2)

-- ---- primaries

pub each_is_primary : EachIsPrimary
each_is_primary c r below = mod-eq_of_lt below

pub primaries_return : PrimariesReturn
primaries_return c view = add-mod_right view (replicas c)

-- ---- runs

pub runs_have_replicas : RunsHaveReplicas
runs_have_replicas c trace run = run.replicas

pub runs_have_clients : RunsHaveClients
runs_have_clients c trace run = run.clients

-- a run and one more input of a correct party
pub run_goes_on : (Client : Configuration → ℕ → List Entry → Type 0) (c : Configuration) (e : Entry) (trace : List Entry) → IsRunBy Client c trace
    → is_correct c (party_of e) ≡ true → is_output e ≡ false
    → ((q : ℕ) → party_of e ≡ q → is_correct_replica c q ≡ true → IsReplica c q (history_of q trace) → IsReplica c q (e ∷ history_of q trace))
    → ((q : ℕ) → party_of e ≡ q → is_correct_client c q ≡ true → Client c q (history_of q trace) → Client c q (e ∷ history_of q trace))
    → IsRunBy Client c (e ∷ trace)
run_goes_on Client c e trace run correct input replica client = record {
  replicas = λ q h. at_replica q h (party_of e == q) refl;
  clients = λ q h. at_client q h (party_of e == q) refl;
  parties = (correct, run.parties);
  events = (input_follows e trace input, run.events);
}
  where
    at_replica : (q : ℕ) → is_correct_replica c q ≡ true → (b : Bool) → (party_of e == q) ≡ b → IsReplica c q (cond b (e ∷ history_of q trace) (history_of q trace))
    at_replica q h true is = replica q (eqb-true (party_of e) q is) h (run.replicas q h)
    at_replica q h false is = run.replicas q h

    at_client : (q : ℕ) → is_correct_client c q ≡ true → (b : Bool) → (party_of e == q) ≡ b → Client c q (cond b (e ∷ history_of q trace) (history_of q trace))
    at_client q h true is = client q (eqb-true (party_of e) q is) h (run.clients q h)
    at_client q h false is = run.clients q h

pub runs_go_on : RunsGoOn
runs_go_on c trace run p correct = (
  run_goes_on IsClient c (Tick p) trace run correct refl (λ q is h was. inr (is, tt, was)) (λ q is h was. inr (is, tt, was)),
  λ bytes. run_goes_on IsClient c (Got p bytes) trace run correct refl (λ q is h was. inr (is, tt, was)) (λ q is h was. inr (is, tt, was)),
)

pub replicas_go_on : ReplicasGoOn
replicas_go_on c me past (point, leaves) = (
  (record point { ran = [] }, (point, leaves, record { own = refl; may = tt; moves = refl })),
  λ bytes. (record point { ran = []; waiting = waiting_after c me point bytes }, (point, leaves, record { own = refl; may = tt; moves = refl })),
)

-- no client is a replica
pub not_both : (c : Configuration) → IsConfiguration c → (k q : ℕ) → 256 + k ≡ q → is_correct_replica c q ≡ true → ⊥
not_both c valid k q is h =
    let l : q < replicas c = ((replicas_are_correct c q).0 h).0 in
    let m = valid.most in
    omega arith

call_may : (trace : List Entry) (k q : ℕ) (op : Operation) → 256 + k ≡ q → IsOperation op → open_call (history_of (256 + k) trace) ≡ None
    → MayInput 0 (history_of q trace) (Invoke k (suc (last_call (history_of (256 + k) trace))) op)
call_may trace k q op is right none =
    (ap (λ (p : ℕ). suc (last_call (history_of p trace))) is, subst (λ (p : ℕ). open_call (history_of p trace) ≡ None) is none, right)

pub correct_client_is : (c : Configuration) (k : ℕ) → is_correct_client c (256 + k) ≡ true → is_correct c (256 + k) ≡ true
correct_client_is c k h = or_right (is_correct_replica c (256 + k)) (is_correct_client c (256 + k)) h

pub runs_take_calls : RunsTakeCalls
runs_take_calls c valid trace run k op correct right none =
    run_goes_on IsClient c (Invoke k (suc (last_call (history_of (256 + k) trace))) op) trace run (correct_client_is c k correct) refl
    (λ q is h was. absurd (not_both c valid k q is h)) (λ q is h was. inr (is, call_may trace k q op is right none, was))

-- ---- frames that a party may receive in an unforged trace

pub others_are_unforged : OthersAreUnforged
others_are_unforged c (Got p bytes) trace unforged other = absurd (other p bytes refl)
others_are_unforged c _ trace unforged other = (tt, unforged)

-- if a party may receive a frame from a correct sender, the sender has sent its message
taken_was_sent : (c : Configuration) (past : List Entry) (o : Option Body) → MayBeTaken c past o → (body : Body) → o ≡ Some body
    → is_correct c body.sender ≡ true → Once (SendsBody body) past
taken_was_sent c past None h body is correct = absurd cc
taken_was_sent c past (Some other) h body is correct = subst (λ (b : Body). Once (SendsBody b) past) same (go h (ap (λ (b : Body). is_correct c b.sender) same ∙ correct))
  where
    same : other ≡ body
    same = some_injective other body is

    go : (is_correct c other.sender ≡ false) ⊎ Once (SendsBody other) past → is_correct c other.sender ≡ true → Once (SendsBody other) past
    go (inl faulty) correct = let bad : false ≡ true = sym faulty ∙ correct in absurd cc
    go (inr sent) correct = sent

is_from_sender : (c : Configuration) (me : ℕ) (past : List Entry) (bytes : List ℕ) → MayBeGot c me past bytes → IsFromSender c me past bytes
is_from_sender c me past bytes h = record {
  receives = taken_was_sent c past (authentic (members c me) me bytes) h.0;
  signed = taken_was_sent c past (signed_body (signers c) bytes) h.1;
}

are_from_senders : (c : Configuration) (me : ℕ) (past : List Entry) (frames : List (List ℕ)) → Each (MayBeGot c me past) frames → Each (IsFromSender c me past) frames
are_from_senders c me past [] h = tt
are_from_senders c me past (x ∷ xs) h = (is_from_sender c me past x h.0, are_from_senders c me past xs h.1)

pub frames_may_be_got : FramesMayBeGot
frames_may_be_got c me bytes trace unforged h = (λ correct. are_from_senders c me trace (frames_in bytes) h, unforged)

pub faulty_receive_anything : FaultyReceiveAnything
faulty_receive_anything c me bytes trace unforged faulty = (λ correct. let bad : false ≡ true = sym faulty ∙ correct in absurd cc, unforged)

-- ---- the texts whose digests must differ

-- the texts under the pages of the opening state
under_opening : (page : ℕ → List ℕ) (text : List ℕ) → ((i : ℕ) → i < 1024 → page i ≡ page_text opening i) → IsUnder page text → IsOpeningText text
under_opening page _ same (inner j l) =
    inr (inr (j, l, ap (λ (pages : List (List ℕ)). concat (page_digests pages j)) (same_all page (page_text opening) same)))
under_opening page _ same top = inr (inl (ap (λ (pages : List (List ℕ)). concat (inner_digests pages)) (same_all page (page_text opening) same)))

executes_none : (c : Configuration) (k : ℕ) (text : List ℕ) (xs : List Entry) → Always (λ past e. is_quiet e ≡ true) xs → Once (ExecutesBatch c k text) xs → ⊥
executes_none c k text [] quiet h = h
executes_none c k text (e ∷ past) quiet (inr h) = executes_none c k text past quiet.1 h
executes_none c k text (e ∷ past) quiet (inl h) = go e quiet.0 h
  where
    go : (e : Entry) → is_quiet e ≡ true → ExecutesBatch c k text past e → ⊥
    go (Executed p n b) quiet h = absurd cc
    go _ quiet h = h

installs_none : (c : Configuration) (batches : List (List ℕ)) (text : List ℕ) (xs : List Entry) → Always (λ past e. is_quiet e ≡ true) xs → Once (InstallsOver c batches text) xs → ⊥
installs_none c batches text [] quiet h = h
installs_none c batches text (e ∷ past) quiet (inr h) = installs_none c batches text past quiet.1 h
installs_none c batches text (e ∷ past) quiet (inl h) = go e quiet.0 h
  where
    go : (e : Entry) → is_quiet e ≡ true → InstallsOver c batches text past e → ⊥
    go (Installed p n root) quiet h = absurd cc
    go _ quiet h = h

-- ---- what frames bring

has_batch : (text : List ℕ) (message : Message) → Has (λ x. x ≡ text) (batches_of message) → HasText text message
has_batch text (PrePrepare v i b) (inl h) = h
has_batch text (PrePrepare v i b) (inr h) = absurd h
has_batch text (NewView new) h = h
has_batch text _ h = absurd h

has_part : (text : List ℕ) (body : Body) → is_page body ≡ false → Has (λ x. x ≡ text) (parts_of body.message) → HasText text body.message
has_part text body quiet h = go body.message quiet h
  where
    go : (message : Message) → is_page (record { sender = body.sender; message = message }) ≡ false → Has (λ x. x ≡ text) (parts_of message) → HasText text message
    go (Meta a b d e) quiet (inl h) = h
    go (Meta a b d e) quiet (inr h) = absurd h
    go (Page a b d) quiet h = absurd cc
    go _ quiet h = absurd h

brings_batch : (text : List ℕ) (past : List Entry) (e : Entry) → EntryHasBatch text past e → BringsText text past e
brings_batch text past (Got p bytes) (body, says, h) = (body, says, has_batch text body.message h)
brings_batch text past (Sent p bytes) (body, says, h) = (body, says, has_batch text body.message h)
brings_batch text past _ h = h

brings_part : (text : List ℕ) (xs : List Entry) → Always (λ past e. is_quiet e ≡ true) xs → Once (EntryHasPart text) xs → Once (BringsText text) xs
brings_part text [] quiet h = h
brings_part text (e ∷ past) quiet (inr h) = inr (brings_part text past quiet.1 h)
brings_part text (e ∷ past) quiet (inl h) = inl (go e quiet.0 h)
  where
    no_page : (b : Bool) → not b ≡ true → b ≡ false
    no_page true h = absurd cc
    no_page false h = refl

    go : (e : Entry) → is_quiet e ≡ true → EntryHasPart text past e → BringsText text past e
    go (Got p bytes) quiet (body, says, h) =
        (body, says, has_part text body (no_page (is_page body) (sym (ap (λ (o : Option Body). not (option_map_or is_page o false)) says) ∙ quiet)) h)
    go (Sent p bytes) quiet h = absurd h
    go _ quiet h = h

pub texts_are_few : TextsAreFew
texts_are_few c trace _ quiet null = inl refl
texts_are_few c trace text quiet (batch _ h) = inr (inr (once_weaker (EntryHasBatch text) (BringsText text) (brings_batch text) trace h))
texts_are_few c trace text quiet (part _ h) = inr (inr (brings_part text trace quiet h))
texts_are_few c trace _ quiet (page_of [] i l h) = inr (inl (inl (i, refl)))
texts_are_few c trace _ quiet (page_of (x ∷ xs) i l h) = absurd (executes_none c 1 x trace quiet (first_executes c 1 x trace h.0))
texts_are_few c trace text quiet (under [] _ h u) = inr (inl (under_opening (page_text opening) text (λ i l. refl) u))
texts_are_few c trace text quiet (under (x ∷ xs) _ h u) = absurd (executes_none c 1 x trace quiet (first_executes c 1 x trace h.0))
texts_are_few c trace text quiet (installed batches _ h u) = absurd (installs_none c batches text trace quiet u)

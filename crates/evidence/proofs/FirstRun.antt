-- The first operation is a run, once its replicas' histories are replicas', and none of its messages is forged.
use Rattle.std.proofs.Common.{◌≡◌, ℕ, ◌+◌, ◌≤◌, ◌<◌, Bool, true, false, not, cond, List, [], ◌∷◌, inl, inr, Some, Option, refl, sym, ap, subst, ◌∙◌, arith, ◌&&◌, ◌||◌, eqb-true}
use Rattle.std.specs.Prelude.{◌==◌, nat_lt, nat_le, map, reverse}
use Rattle.std.specs.List.{list_all, list_any}
use Rattle.std.specs.Option.{option_map_or}
use Rattle.std.proofs.lemmas.Bool.{and_parts, ltb-true, leb-true, ne_eqb}
use Rattle.tuple_codec.specs.Operations.{Operation}
use Rattle.protocol.specs.System.Configuration.{Configuration, IsConfiguration, is_replica, is_client, is_correct_client, is_correct}
use Rattle.protocol.specs.System.Trace.{Entry, party_of, is_output, history_of, Always, Once, SendsBody, IsFromSender, IsUnforgedAt, Unforged, carried_by}
use Rattle.protocol.specs.System.Trace.Entry.{Sent}
use Rattle.wire_format.specs.Messages.{BodyData as Body}
use Rattle.wire_format.specs.Words.{carried, said}
use Rattle.protocol.specs.Client.RightClient.{IsClient}
use Rattle.protocol.specs.Replica.Owed.{IsReplica}
use Rattle.protocol.specs.System.Run.{OutputFollows, IsRun}
use Rattle.evidence.specs.Examples.{four}
use Rattle.evidence.specs.FirstOperation.{FirstFrames, AreFirstFrames, first_trace, FirstOperationIsRun, FirstOperationIsUnforged}
use Rattle.protocol.proofs.Words.Options.{some_injective}
use Rattle.protocol.proofs.Words.Linking.{heard_said, signed_said}
use Rattle.evidence.proofs.FirstScheduleMoves.{or_cases, is_known, known_correct, Row, Move, moves, row, entry_of, moves_make, is_row}
use Rattle.evidence.proofs.FirstScheduleMoves.Move.{asks, sends, gets, runs, accepts}
use Rattle.evidence.proofs.FirstClient
use Rattle.wire_format.specs.Lists.{Each}

-- ---- parties

-- who is not among them has no entries
pub none_of : (p : ℕ) → is_known p ≡ false → (xs : List Entry) → list_all (λ e. is_known (party_of e)) xs ≡ true → history_of p xs ≡ []
none_of p other [] h = refl
none_of p other (e ∷ xs) h =
    let k = and_parts (is_known (party_of e)) (list_all (λ e. is_known (party_of e)) xs) h in
    go (party_of e == p) refl k.0 ∙ none_of p other xs k.1
  where
    go : (b : Bool) → (party_of e == p) ≡ b → is_known (party_of e) ≡ true → cond b (e ∷ history_of p xs) (history_of p xs) ≡ history_of p xs
    go true is known = let bad : true ≡ false = sym known ∙ ap is_known (eqb-true (party_of e) p is) ∙ other in absurd cc
    go false is known = refl

pub all_correct : (clients : ℕ) (seed : List ℕ) → 1 ≤ clients → (xs : List Entry) → list_all (λ e. is_known (party_of e)) xs ≡ true
    → Always (λ past e. is_correct (four clients seed) (party_of e) ≡ true) xs
all_correct clients seed some [] h = tt
all_correct clients seed some (e ∷ xs) h =
    let k = and_parts (is_known (party_of e)) (list_all (λ e. is_known (party_of e)) xs) h in
    (known_correct clients seed some (party_of e) k.0, all_correct clients seed some xs k.1)

-- another client than 0 is not among them
pub other_client : (clients : ℕ) (seed : List ℕ) (p : ℕ) → is_correct_client (four clients seed) p ≡ true → (256 == p) ≡ false → is_known p ≡ false
other_client clients seed p h e =
    rw (ne_eqb 0 p (λ z. omega (arith, high, z)), ne_eqb 1 p (λ z. omega (arith, high, z)), ne_eqb 2 p (λ z. omega (arith, high, z)), ne_eqb 3 p (λ z. omega (arith, high, z)), e) refl
  where
    high : 256 ≤ p
    high =
        leb-true 256 p (and_parts (nat_le 256 p) (nat_lt p (256 + clients)) (and_parts (is_client (four clients seed) p) true h).0).0

-- ---- outputs follow

abbrev pub follows : List Entry → Entry → Bool
follows [] e = not (is_output e)
follows (before ∷ past) e = not (is_output e) || (party_of before == party_of e)

abbrev pub all_follow : List Entry → Bool
all_follow [] = true
all_follow (e ∷ past) = follows past e && all_follow past

it_follows : (past : List Entry) (e : Entry) → follows past e ≡ true → OutputFollows past e
it_follows [] e h = go (is_output e) h
  where
    go : (b : Bool) → not b ≡ true → b ≡ false
    go true h = absurd cc
    go false h = refl
it_follows (before ∷ past) e h = λ o. eqb-true (party_of before) (party_of e) (go (is_output e) o h)
  where
    go : (b : Bool) → b ≡ true → (not b || (party_of before == party_of e)) ≡ true → (party_of before == party_of e) ≡ true
    go true o h = h
    go false o h = absurd cc

pub they_follow : (xs : List Entry) → all_follow xs ≡ true → Always OutputFollows xs
they_follow [] h = tt
they_follow (e ∷ past) h = let k = and_parts (follows past e) (all_follow past) h in (it_follows past e k.0, they_follow past k.1)

-- ---- the run

module _ (clients : ℕ) (seed : List ℕ) (op : Operation) (batch : List ℕ) (w : FirstFrames) (setting : IsConfiguration (four clients seed))
    (x : AreFirstFrames (four clients seed) op batch w)
    (replica : (r : ℕ) → r < 4 → IsReplica (four clients seed) r (history_of r (first_trace op batch w))) where
  abbrev c : Configuration
  c = four clients seed

  abbrev trace : List Entry
  trace = first_trace op batch w

  known : list_all (λ e. is_known (party_of e)) trace ≡ true
  known = refl

  client : (p : ℕ) → is_correct_client c p ≡ true → (b : Bool) → (256 == p) ≡ b → IsClient c p (history_of p trace)
  client p h true e = subst (λ (q : ℕ). IsClient c q (history_of q trace)) (eqb-true 256 p e) (FirstClient.is_client clients seed op batch w x)
  client p h false e = subst (IsClient c p) (sym (none_of p (other_client clients seed p h e) trace known)) tt

  pub is_run : IsRun c trace
  is_run = record {
    replicas = λ p h. replica p (ltb-true p 4 (and_parts (is_replica c p) true h).0);
    clients = λ p h. client p h (256 == p) refl;
    parties = all_correct clients seed setting.some_clients trace known;
    events = they_follow trace refl;
  }

pub first_operation_is_run :
    ((clients : ℕ) (seed : List ℕ) (op : Operation) (batch : List ℕ) (w : FirstFrames) → IsConfiguration (four clients seed)
    → AreFirstFrames (four clients seed) op batch w → (r : ℕ) → r < 4 → IsReplica (four clients seed) r (history_of r (first_trace op batch w)))
    → FirstOperationIsRun
first_operation_is_run replica clients seed op batch w setting x = is_run clients seed op batch w setting x (replica clients seed op batch w setting x)

-- ---- each received frame is sent before, and so is each frame that it carries

abbrev is_send : ℕ → Move → Bool
is_send n (sends m) = m == n
is_send n _ = false

abbrev was_sent : List Move → ℕ → Bool
was_sent past n = list_any (is_send n) past

module _ (clients : ℕ) (seed : List ℕ) (op : Operation) (batch : List ℕ) (w : FirstFrames) (x : AreFirstFrames (four clients seed) op batch w) where
  abbrev configuration : Configuration
  configuration = four clients seed

  abbrev entry : Move → Entry
  entry = entry_of clients seed op batch w

  abbrev the : ℕ → Row
  the = row clients seed op batch w

  abbrev body : ℕ → Body
  body n = record { sender = (the n).sender; message = (the n).message }

  once_sent : (n : ℕ) → said (the n).bytes ≡ Some (body n) → (past : List Move) → was_sent past n ≡ true → Once (SendsBody (body n)) (map entry past)
  once_sent n says [] h = absurd cc
  once_sent n says (m ∷ past) h = or_cases (is_send n m) (was_sent past n) _ h (λ e. inl (here m e)) (λ e. inr (once_sent n says past e))
    where
      here : (m : Move) → is_send n m ≡ true → SendsBody (body n) (map entry past) (entry m)
      here (sends k) e =
          subst (λ (i : ℕ). SendsBody (body n) (map entry past) (Sent (the i).sender (the i).bytes)) (sym (eqb-true k n e)) (refl, says)
      here asks e = absurd cc
      here (gets p k) e = absurd cc
      here (runs r) e = absurd cc
      here accepts e = absurd cc

  from_sender : (me n : ℕ) (past : List Move) → was_sent past n ≡ true → IsFromSender configuration me (map entry past) (the n).bytes
  from_sender me n past h = record {
    receives = λ other is correct. sent other (heard_said configuration me (the n).bytes other is);
    signed = λ other is correct. sent other (signed_said configuration (the n).bytes other is);
  }
    where
      sent : (other : Body) → said (the n).bytes ≡ Some other → Once (SendsBody other) (map entry past)
      sent other says =
          let r = is_row clients seed op batch w x n in
          let same : body n ≡ other = some_injective (body n) other (sym r.from.says ∙ says) in
          subst (λ (b : Body). Once (SendsBody b) (map entry past)) same (once_sent n r.from.says past h)

  from_senders : (me : ℕ) (past : List Move) (ns : List ℕ) → list_all (was_sent past) ns ≡ true
      → Each (IsFromSender configuration me (map entry past)) (map (λ n. (the n).bytes) ns)
  from_senders me past [] h = tt
  from_senders me past (n ∷ ns) h = let k = and_parts (was_sent past n) (list_all (was_sent past) ns) h in (from_sender me n past k.0, from_senders me past ns k.1)

  -- each received frame is sent before, and so is each frame that it carries
  abbrev is_after : List Move → Move → Bool
  is_after past (gets p n) = was_sent past n && list_all (was_sent past) (the n).carries
  is_after past _ = true

  abbrev pub all_after : List Move → Bool
  all_after [] = true
  all_after (m ∷ past) = is_after past m && all_after past

  unforged_at : (past : List Move) (m : Move) → is_after past m ≡ true → IsUnforgedAt configuration (map entry past) (entry m)
  unforged_at past (gets p n) h =
      let k = and_parts (was_sent past n) (list_all (was_sent past) (the n).carries) h in
      let r = is_row clients seed op batch w x n in
      let carried_is : carried_by (the n).bytes ≡ map (λ n. (the n).bytes) (the n).carries =
      ap (λ (o : Option Body). option_map_or (λ (b : Body). carried b.message) o []) r.from.says ∙ r.carries_are in
      λ correct. (from_sender p n past k.0, subst (Each (IsFromSender configuration p (map entry past))) (sym carried_is) (from_senders p past (the n).carries k.1))
  unforged_at past asks h = tt
  unforged_at past (sends n) h = tt
  unforged_at past (runs r) h = tt
  unforged_at past accepts h = tt

  pub are_unforged : (ms : List Move) → all_after ms ≡ true → Unforged configuration (map entry ms)
  are_unforged [] h = tt
  are_unforged (m ∷ past) h = let k = and_parts (is_after past m) (all_after past) h in (unforged_at past m k.0, are_unforged past k.1)

  pub is_unforged : Unforged configuration (first_trace op batch w)
  is_unforged = subst (Unforged configuration) (moves_make clients seed op batch w) (are_unforged (reverse moves) refl)

pub first_operation_is_unforged : FirstOperationIsUnforged
first_operation_is_unforged clients seed op batch w setting x = is_unforged clients seed op batch w x

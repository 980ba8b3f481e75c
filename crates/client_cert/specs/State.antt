-- The state of a client as plain data, and its changes by entries.
use Rattle.std.specs.Prelude.{◌≡◌, ℕ, ◌+◌, ◌*◌, ◌^◌, ◌≤◌, Bool, true, false, ◌&&◌, ◌||◌, not, List, [], Option, Some, is_some, nat_le, ◌==◌, bytes_eq, cond, if◌then◌else◌, refl, ◌⊎◌}
use Rattle.std.specs.Option.{option_map_or}
use Rattle.std.specs.Map.{lookup}
use Rattle.std.proofs.Common.{inl, inr}
use Rattle.std.specs.Coded.{Coded, code_by, coded×, coded⊎, coded_list, coded_option, coded_ℕ, coded_bool}
use Rattle.terms.specs.Parties.{client_party}
use Rattle.terms.specs.declared.order.Mode.{Mode}
use Rattle.terms.specs.declared.order.Mode.TheVariants as modes
use Rattle.tuple_codec.specs.Operations.{Operation}
use Rattle.tuple_codec.specs.Spelling.{outcome_spelling}
use Rattle.authenticator.specs.Keys.{Keys, row, dealt}
use Rattle.authenticator.specs.Membership.{Membership}
use Rattle.authenticator.specs.declared.row.SharedKey.{SharedKey}
use Rattle.quorum.specs.Quorum.{count_below}
use Rattle.protocol.specs.System.Frames.{same_mode}
use Rattle.protocol.specs.Client.RightClient.{Vote}
use Rattle.tuple_codec.specs.OperationsCode.{operation_code}

-- a replica's reply: the number of its state, and the bytes that spell its answer
pub record Ballot : Type 0 where
  pub number : ℕ
  pub text : List ℕ

-- the latest replies of one mode by the replicas' numbers, in order of arrival
abbrev pub Ballots : Type 0
Ballots = List (ℕ × Ballot)

-- a call that is not answered yet: its operation, whether its request went ordered, and the replies of either mode
pub record CallState : Type 0 where
  pub op : Operation
  pub ordered : Bool
  pub ordered_ballots : Ballots
  pub read_ballots : Ballots

-- a client: its number, what it knows of the members, its last timestamp, its open call, and whether it stopped
pub record ClientState : Type 0 where
  pub number : ℕ
  pub membership : Membership
  pub calls : ℕ
  pub call : Option CallState
  pub stopped : Bool

-- The faults are the members'. A timestamp is left if the client hasn't stopped, or if no call is open.
abbrev pub ClientIsOfMembers : ℕ → Membership → ℕ → Option CallState → Bool → Type 0
ClientIsOfMembers faults m calls call stopped =
    (faults ≡ m.faults) × (faults ≤ 3) × (calls ≤ 2 ^ 62 + 1)
    × (stopped ≡ false → calls ≤ 2 ^ 62) × (is_some call ≡ false → calls ≤ 2 ^ 62)
    × (stopped ≡ true → is_some call ≡ true)

-- ---- codes

abbrev pub ballot_code : Coded Ballot
ballot_code =
    code_by (ℕ × List ℕ) (coded× coded_ℕ (coded_list coded_ℕ)) (λ b. (b.number, b.text))
    (λ p. record { number = p.0; text = p.1 }) (λ _. refl)

abbrev pub ballots_code : Coded Ballots
ballots_code = coded_list (coded× coded_ℕ ballot_code)

abbrev pub call_code : Coded CallState
call_code =
    code_by (Operation × (Bool × (Ballots × Ballots)))
    (coded× operation_code (coded× coded_bool (coded× ballots_code ballots_code)))
    (λ x. (x.op, (x.ordered, (x.ordered_ballots, x.read_ballots))))
    (λ p. record { op = p.0; ordered = p.1.0; ordered_ballots = p.1.1.0; read_ballots = p.1.1.1 }) (λ _. refl)

abbrev pub shared_key_code : Coded SharedKey
shared_key_code =
    code_by (ℕ × (ℕ × List ℕ)) (coded× coded_ℕ (coded× coded_ℕ (coded_list coded_ℕ))) (λ k. (k.from, (k.to, k.key)))
    (λ p. record { from = p.0; to = p.1.0; key = p.1.1 }) (λ _. refl)

abbrev pub keys_parts : Keys → List SharedKey ⊎ List ℕ
keys_parts (row keys) = inl keys
keys_parts (dealt seed) = inr seed

abbrev pub keys_from : List SharedKey ⊎ List ℕ → Keys
keys_from (inl keys) = row keys
keys_from (inr seed) = dealt seed

pub keys_from-parts : (keys : Keys) → keys_from (keys_parts keys) ≡ keys
keys_from-parts (row keys) = refl
keys_from-parts (dealt seed) = refl

abbrev pub keys_code : Coded Keys
keys_code =
    code_by (List SharedKey ⊎ List ℕ) (coded⊎ (coded_list shared_key_code) (coded_list coded_ℕ)) keys_parts keys_from
    keys_from-parts

abbrev pub membership_code : Coded Membership
membership_code =
    code_by (ℕ × (ℕ × (Keys × List (List ℕ))))
    (coded× coded_ℕ (coded× coded_ℕ (coded× keys_code (coded_list (coded_list coded_ℕ)))))
    (λ m. (m.faults, (m.clients, (m.keys, m.publics))))
    (λ p. record { faults = p.0; clients = p.1.0; keys = p.1.1.0; publics = p.1.1.1 }) (λ _. refl)

abbrev pub client_code : Coded ClientState
client_code =
    code_by (ℕ × (Membership × (ℕ × (Option CallState × Bool))))
    (coded× coded_ℕ (coded× membership_code (coded× coded_ℕ (coded× (coded_option call_code) coded_bool))))
    (λ s. (s.number, (s.membership, (s.calls, (s.call, s.stopped)))))
    (λ p. record { number = p.0; membership = p.1.0; calls = p.1.1.0; call = p.1.1.1.0; stopped = p.1.1.1.1 })
    (λ _. refl)

-- no call is open, and none can be made: the client had stopped, or spent the timestamp 2^62
abbrev pub IsSpent : ClientState → Type 0
IsSpent s = (is_some s.call ≡ false) × ((s.stopped || nat_le (2 ^ 62) s.calls) ≡ true)

-- ---- replies

-- the party of the client
abbrev pub me_of : ClientState → ℕ
me_of s = client_party s.number

-- the reply of the replica s
abbrev pub held : Ballots → ℕ → Option Ballot
held ballots s = lookup (λ k. s == k) ballots

abbrev pub ballots_of : Mode → CallState → Ballots
ballots_of modes.Ordered call = call.ordered_ballots
ballots_of modes.ReadOnly call = call.read_ballots

-- the ballot that is kept of a vote
abbrev pub ballot_of : Vote → Ballot
ballot_of vote = record { number = vote.number; text = outcome_spelling vote.answer }

-- the replies and one more, which replaces its sender's earlier one
pub record AddsBallot (old : Ballots) (sender : ℕ) (ballot : Ballot) (new : Ballots) : Type 0 where
  pub at : (s : ℕ) → held new s ≡ cond (sender == s) (Some ballot) (held old s)

-- the call with one more reply of the mode
pub record TakesReply (old : CallState) (mode : Mode) (sender : ℕ) (ballot : Ballot) (new : CallState) : Type 0 where
  pub op : new.op ≡ old.op
  pub ordered : new.ordered ≡ old.ordered
  pub at : (m : Mode) (s : ℕ)
      → held (ballots_of m new) s ≡ cond (same_mode mode m && (sender == s)) (Some ballot) (held (ballots_of m old) s)

-- the same number and answer
abbrev pub is_like : Ballot → Option Ballot → Bool
is_like ballot other = option_map_or (λ o. (o.number == ballot.number) && bytes_eq o.text ballot.text) other false

-- how many of n replicas gave this reply
abbrev pub count_like : Ballots → ℕ → Ballot → ℕ
count_like ballots n ballot = count_below (λ s. is_like ballot (held ballots s)) n

-- how many of n replicas gave the same reply as the sender
abbrev pub count_alike : Ballots → ℕ → ℕ → ℕ
count_alike ballots n sender = option_map_or (count_like ballots n) (held ballots sender) 0

-- how many of n replicas gave a reply
abbrev pub count_held : Ballots → ℕ → ℕ
count_held ballots n = count_below (λ s. is_some (held ballots s)) n

-- ---- consequences of a reply: nothing, an ordered request, or an acceptance

pub data Turn : Type 0 where
  waits : Turn
  asks_ordered : Turn
  accepts_it : Turn

-- Equal replies of a quorum end a call. If no request went ordered, an ordered one follows once all replicas answered
-- the read.
abbrev pub turn_of : ℕ → CallState → Mode → ℕ → Turn
turn_of faults call mode sender =
    if nat_le (2 * faults + 1) (count_alike (ballots_of mode call) (3 * faults + 1) sender) then accepts_it
    else if not call.ordered && nat_le (3 * faults + 1) (count_held call.read_ballots (3 * faults + 1))
    then asks_ordered else waits

-- ---- changes by entries

-- a call without replies, whose request was not sent
abbrev pub new_call : Operation → CallState
new_call op = record { op = op; ordered = false; ordered_ballots = []; read_ballots = [] }

-- a call begins
abbrev pub called : ℕ → Operation → ClientState → ClientState
called timestamp op s = record s { calls = timestamp; call = Some (new_call op) }

-- its request is sent in the mode
abbrev pub went : Mode → CallState → CallState
went mode call = record call { ordered = same_mode mode modes.Ordered || call.ordered }

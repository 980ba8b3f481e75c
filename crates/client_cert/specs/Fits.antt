-- A client's state fits the history of its life. A life begins above the timestamp start; the first one, which may be
-- the only one, above 0.
use Rattle.std.specs.Prelude.{◌≡◌, ℕ, false, List, [], Option, Some, None, is_some, option_map, ◌≤◌, ◌++◌}
use Rattle.terms.specs.declared.order.Mode.{Mode}
use Rattle.protocol.specs.System.Configuration.{Configuration, members}
use Rattle.protocol.specs.System.Trace.{Entry}
use Rattle.protocol.specs.Client.RightClient.{last_call, last_call_above, open_call, went_ordered, latest, reaction, Reacts, IsLife, IsClientOfLives}
use Rattle.client_cert.specs.State.{CallState, ClientState, me_of, held, ballots_of, ballot_of}

-- the state of the open call with this timestamp
pub record FitsCall (c : Configuration) (me : ℕ) (history : List Entry) (timestamp : ℕ) (call : CallState) : Type 0
  where
    pub open_is : open_call history ≡ Some (record { timestamp = timestamp; op = call.op })
    pub ordered_is : went_ordered history timestamp ≡ call.ordered
    pub ballots_are : (mode : Mode) (s : ℕ)
        → held (ballots_of mode call) s ≡ option_map ballot_of (latest c me history timestamp mode s)

abbrev pub FitsOpenCall : Configuration → ℕ → List Entry → ℕ → Option CallState → Type 0
FitsOpenCall c me history timestamp None = open_call history ≡ None
FitsOpenCall c me history timestamp (Some call) = FitsCall c me history timestamp call

-- at each entry, also within an event
pub record FitsWithinEvents (c : Configuration) (me start : ℕ) (history : List Entry) (timestamp : ℕ)
    (call : Option CallState) : Type 0 where
  pub last_is : last_call_above start history ≡ timestamp
  pub call_is : FitsOpenCall c me history timestamp call

-- between events, of a client that hasn't stopped
pub record FitsRunningClient (c : Configuration) (me start : ℕ) (client : ClientState)
    (history : List Entry) : Type 0 where
  pub holds : FitsWithinEvents c me start history client.calls client.call
  pub gave : Reacts c me start (reaction c me) [] history

-- Between events, of a life that begins above the timestamp start. A client that stopped still knows its last call, and
-- whether it is open.
pub record FitsLife (c : Configuration) (start : ℕ) (client : ClientState) (history : List Entry) : Type 0 where
  pub members_are : members c (me_of client) ≡ client.membership
  pub last_is : last_call_above start history ≡ client.calls
  pub open_is : is_some (open_call history) ≡ is_some client.call
  pub right : IsLife c (me_of client) start history
  pub running : client.stopped ≡ false → FitsRunningClient c (me_of client) start client history

-- of a client with one life, whose timestamps are 1, 2, ..
abbrev pub Fits : Configuration → ClientState → List Entry → Type 0
Fits c client history = FitsLife c 0 client history

-- The history of a life behind those of earlier ones is a correct client's over its lives, if no earlier timestamp is
-- above the one at which the life began.
abbrev pub LifeFollowsLives : Type 0
LifeFollowsLives =
    (c : Configuration) (start : ℕ) (client : ClientState) (life earlier : List Entry)
    → IsClientOfLives c (me_of client) earlier → last_call earlier ≤ start → FitsLife c start client life
    → IsClientOfLives c (me_of client) (life ++ earlier)

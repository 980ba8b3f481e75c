-- The requests that wait for execution.
use Rattle.std.specs.Prelude.{ℕ, zero, suc, true, ◌==◌, ◌&&◌, Bool, not, List, ◌∷◌, [], ◌++◌, length, map, filter, find, take, nat_lt, if◌then◌else◌, Option, Some, None, option_map, Vec}
use Rattle.std.specs.List.{list_any}
use Rattle.std.specs.Borrow.{Bor}
use Rattle.std.specs.declared.alloc.Global.{Global}
use Rattle.terms.specs.declared.parties.ClientId.{ClientId}
use Rattle.terms.specs.declared.order.Timestamp.{Timestamp}
use Rattle.wire_format.specs.Lists.{Each}
use Rattle.wire_format.specs.Spelling.{IsCarried, is_ordered_request}
use Rattle.protocol.specs.Replica.State.{State, last_time}
use Rattle.desk.specs.declared.waiting.WaitingRequest.{WaitingRequest}
use Rattle.desk.specs.declared.waiting.AssignedCall.{AssignedCall}

-- the requests in order of arrival, and the calls in the new view with which the view began
pub record WaitingData : Type 0 where
  pub requests : List WaitingRequest
  pub assigned : List AssignedCall

abbrev pub none_waiting : WaitingData
none_waiting = record { requests = []; assigned = [] }

-- their frames
abbrev pub texts : List WaitingRequest → List (List ℕ)
texts requests = map (λ r. r.frame.items) requests

abbrev pub frames_waiting : WaitingData → List (List ℕ)
frames_waiting w = texts w.requests

-- it is the client's
abbrev pub is_of : ℕ → WaitingRequest → Bool
is_of client r = r.client.number == client

-- it is newer than the last that its client ran
abbrev pub is_new : State → WaitingRequest → Bool
is_new st r = nat_lt (last_time st r.client.number) r.timestamp.0

-- the view began with the call
abbrev pub is_assigned : List AssignedCall → ℕ → ℕ → Bool
is_assigned assigned client timestamp =
    list_any (λ b. (b.client.number == client) && (b.timestamp.0 == timestamp)) assigned

-- ---- queries

-- the request that is lent, if there is one
abbrev pub lent : Option (Bor WaitingRequest) → Option WaitingRequest
lent found = option_map (λ r. r.now) found

-- the client's request, if one waits
abbrev pub request_of : ℕ → WaitingData → Option WaitingRequest
request_of client w = find (is_of client) w.requests

-- the client's number and the timestamp of the request that has waited longest
abbrev pub oldest_of : List WaitingRequest → Option (ℕ × Timestamp)
oldest_of [] = None
oldest_of (r ∷ requests) = Some (r.client.number, r.timestamp)

-- those without a number, and up to 16 of them
abbrev pub all_unnumbered : List WaitingRequest → List WaitingRequest
all_unnumbered requests = filter (λ r. not r.numbered) requests

abbrev pub unnumbered : WaitingData → List WaitingRequest
unnumbered w = take 16 (all_unnumbered w.requests)

abbrev pub unnumbered_texts : List WaitingRequest → List (List ℕ)
unnumbered_texts requests = texts (take 16 (all_unnumbered requests))

abbrev pub count_unnumbered : WaitingData → ℕ
count_unnumbered w = length (all_unnumbered w.requests)

-- ---- changes

-- one more, after all others; it has a number if the view began with it
abbrev pub with_request : ClientId → Timestamp → Vec ℕ Global → WaitingData → WaitingData
with_request client timestamp frame w = record w {
  requests = w.requests ++ record {
    client = client;
    timestamp = timestamp;
    frame = frame;
    numbered = is_assigned w.assigned client.number timestamp.0;
  } ∷ [];
}

-- the first so many of those without a number have one
abbrev pub all_numbered : ℕ → List WaitingRequest → List WaitingRequest
all_numbered count [] = []
all_numbered zero requests = requests
all_numbered (suc count) (r ∷ requests) =
    if r.numbered then r ∷ all_numbered (suc count) requests else
    record r { numbered = true } ∷ all_numbered count requests

abbrev pub with_numbered : ℕ → WaitingData → WaitingData
with_numbered count w = record w { requests = all_numbered count w.requests }

-- a view begins with these calls: they alone have numbers
abbrev pub renumbered : List AssignedCall → WaitingRequest → WaitingRequest
renumbered assigned r = record r { numbered = is_assigned assigned r.client.number r.timestamp.0 }

abbrev pub with_view : List AssignedCall → WaitingData → WaitingData
with_view assigned w = record { requests = map (renumbered assigned) w.requests; assigned = assigned }

-- only those with the property
abbrev pub keeping : (WaitingRequest → Bool) → WaitingData → WaitingData
keeping p w = record w { requests = filter p w.requests }

-- without the client's
abbrev pub without_client : ℕ → WaitingData → WaitingData
without_client client w = keeping (λ r. not (is_of client r)) w

-- without those that ran, or are older
abbrev pub forgotten : State → WaitingData → WaitingData
forgotten st w = keeping (is_new st) w

-- ---- kept requests

-- the frame is that of an ordered request
abbrev pub HasRequestFrame : WaitingRequest → Type 0
HasRequestFrame r = IsCarried is_ordered_request r.frame.items

pub record IsWaiting (w : WaitingData) : Type 0 where
  pub each : Each HasRequestFrame w.requests

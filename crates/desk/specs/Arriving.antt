-- How a request stands to a desk that has no reply to it (Castro and Liskov, TOCS 2002, on normal-case operation).
use Rattle.std.specs.Prelude.{◌≡◌, ◌≢◌, ◌<◌, ◌≤◌, ◌⊎◌, ℕ, List, Some}
use Rattle.wire_format.specs.Words.{said}
use Rattle.terms.specs.declared.parties.ClientId.{ClientId}
use Rattle.terms.specs.declared.order.Timestamp.{Timestamp}
use Rattle.protocol.specs.Replica.State.{last_time}
use Rattle.desk.specs.declared.waiting.WaitingRequest.{WaitingRequest}
use Rattle.desk.specs.declared.arriving.Arrival.{Arrival}
use Rattle.desk.specs.declared.arriving.Arrival.TheVariants as arrivals
use Rattle.desk.specs.State.{DeskData}
use Rattle.desk.specs.Waiting.{request_of}

-- a newer request waits, or another one of the same timestamp
abbrev pub IsBehind : WaitingRequest → ℕ → List ℕ → Type 0
IsBehind r timestamp frame =
    (timestamp < r.timestamp.0) ⊎ ((r.timestamp.0 ≡ timestamp) × (said r.frame.items ≢ said frame))

-- the client ran the timestamp or a later one, or its waiting request is newer, or another one of the timestamp
abbrev pub IsPast : DeskData → ℕ → ℕ → List ℕ → Type 0
IsPast d k timestamp frame = (timestamp ≤ last_time d.executed.state k)
    ⊎ ((r : WaitingRequest) × (request_of k d.waiting ≡ Some r) × IsBehind r timestamp frame)

-- this request waits, in whatever frame
abbrev pub IsWaitingAlready : DeskData → ℕ → ℕ → List ℕ → Type 0
IsWaitingAlready d k timestamp frame = (last_time d.executed.state k < timestamp)
    × (r : WaitingRequest) × (request_of k d.waiting ≡ Some r) × (r.timestamp.0 ≡ timestamp)
    × (said r.frame.items ≡ said frame)

-- it is newer than the last that its client ran, and than its waiting request
abbrev pub IsNewer : DeskData → ℕ → ℕ → Type 0
IsNewer d k timestamp = (last_time d.executed.state k < timestamp)
    × ((r : WaitingRequest) → request_of k d.waiting ≡ Some r → r.timestamp.0 < timestamp)

-- how the desk classifies the client's request in this frame
abbrev pub IsArrival : DeskData → ClientId → Timestamp → List ℕ → Arrival → Type 0
IsArrival d client timestamp frame arrivals.Past = IsPast d client.number timestamp.0 frame
IsArrival d client timestamp frame arrivals.Waiting = IsWaitingAlready d client.number timestamp.0 frame
IsArrival d client timestamp frame arrivals.New = IsNewer d client.number timestamp.0

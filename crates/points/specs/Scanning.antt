-- Words of the private functions that find the reads: a scan's notes on each client.
use Rattle.std.specs.Prelude.{◌≡◌, ℕ, ◌<◌, ◌==◌, Bool, ◌&&◌, List, [], ◌∷◌, length, max, if◌then◌else◌, Option, Some, None, option_and_then, option_map}
use Rattle.std.specs.Bool.{then_some}
use Rattle.std.specs.Map.{lookup}
use Rattle.std.specs.Option.{option_map_or}
use Rattle.std.specs.Ordering.{nat_cmp}
use Rattle.std.specs.BTreeMap.{is_at}
use Rattle.terms.specs.declared.parties.TheConstants.{FIRST_CLIENT}
use Rattle.terms.specs.Parties.{client_party}
use Rattle.terms.specs.declared.order.Mode.TheVariants as modes
use Rattle.tuple_codec.specs.Operations.{Outcome}
use Rattle.tuple_codec.specs.OperationView.{operation_of}
use Rattle.wire_format.specs.Messages.{BodyData}
use Rattle.wire_format.specs.declared.messages.Reply.{Reply}
use Rattle.authenticator.specs.Keys.{dealt}
use Rattle.authenticator.specs.Membership.{Membership}
use Rattle.signing.specs.AuthenticBody.{authentic}
use Rattle.protocol.specs.System.Configuration.{Configuration, signers}
use Rattle.protocol.specs.System.Frames.{same_mode}
use Rattle.protocol.specs.System.Trace.{Entry, party_of}
use Rattle.protocol.specs.System.Trace.Entry.{Invoke, Got, Accepted}
use Rattle.protocol.specs.Client.RightClient.{OpenCall, reply_vote}
use Rattle.protocol.specs.Space.Linear.{Placing}
use Rattle.points.specs.Places.{position_in}
use Rattle.points.specs.declared.levels.Rise.{Rise}
use Rattle.points.specs.declared.scans.ClientScan.{ClientScan}

-- The notes of a scan on a client: its open call, the position of its last invocation, else 0, and the bytes that its
-- last entry brought.
pub record ClientScanData : Type 0 where
  pub call : Option OpenCall
  pub invoked : ℕ
  pub got : Option (List ℕ)

abbrev pub empty_scan : ClientScanData
empty_scan = record { call = None; invoked = 0; got = None }

-- after an entry of the client's own at this position
abbrev pub scan_after_entry : ℕ → Entry → ClientScanData → ClientScanData
scan_after_entry position (Invoke client timestamp op) scan =
    record { call = Some (record { timestamp = timestamp; op = op }); invoked = position; got = None }
scan_after_entry position (Accepted client timestamp answer) scan =
    record { call = None; invoked = scan.invoked; got = None }
scan_after_entry position (Got p bytes) scan = record { call = scan.call; invoked = scan.invoked; got = Some bytes }
scan_after_entry position _ scan = record { call = scan.call; invoked = scan.invoked; got = None }

-- the notes on a party
abbrev pub scan_of : ℕ → List Entry → ClientScanData
scan_of p [] = empty_scan
scan_of p (e ∷ past) = if party_of e == p then scan_after_entry (length past) e (scan_of p past) else scan_of p past

-- what the holder of the seed knows: the key from each party to each other
abbrev pub seed_holder : Configuration → Membership
seed_holder c = record (signers c) { keys = dealt c.seed }

-- the number of a message, if it is the read-only reply to the party's call
abbrev pub number_in : ℕ → ℕ → BodyData → Option ℕ
number_in p timestamp body =
    option_and_then (λ vote. then_some (same_mode vote.mode modes.ReadOnly) vote.number)
    (reply_vote p timestamp body.sender body)

-- the same of bytes
abbrev pub read_number : Membership → ℕ → ℕ → List ℕ → Option ℕ
read_number m p timestamp bytes = option_and_then (number_in p timestamp) (authentic m p bytes)

-- the read of this call
abbrev pub read_at : (ℕ → ℕ) → ℕ → Outcome → ℕ → OpenCall → ℕ → Placing
read_at at p answer invoked call number =
    record {
      item = record {
        client = p;
        timestamp = call.timestamp;
        op = call.op;
        answer = answer;
        position = max invoked (at number);
      };
      number = number;
      mode = modes.ReadOnly;
    }

-- the read that an acceptance ends, by the client's scan
abbrev pub read_by_scan : Membership → (ℕ → ℕ) → ℕ → ℕ → Outcome → ClientScanData → Option Placing
read_by_scan m at p timestamp answer scan =
    option_and_then (λ call. option_map (read_at at p answer scan.invoked call)
    (option_and_then (read_number m p timestamp) scan.got)) scan.call

-- the read that an entry ends
abbrev pub entry_read : Membership → (ℕ → ℕ) → List Entry → Entry → Option Placing
entry_read m at past (Accepted client timestamp answer) =
    read_by_scan m at (client_party client) timestamp answer (scan_of (client_party client) past)
entry_read m at past _ = None

-- a list with one more read, if there is one
abbrev pub with_read : Option Placing → List Placing → List Placing
with_read None reads = reads
with_read (Some read) reads = read ∷ reads

abbrev pub reads_by_scans : Membership → (ℕ → ℕ) → List Entry → List Placing
reads_by_scans m at [] = []
reads_by_scans m at (e ∷ past) = with_read (entry_read m at past e) (reads_by_scans m at past)

-- ---- in the program

abbrev pub scan_data : ClientScan → ClientScanData
scan_data s =
    record {
      call = option_map (λ x. record { timestamp = x.timestamp.0; op = operation_of x.op.now }) s.call;
      invoked = s.invoked;
      got = option_map (λ x. x.now) s.got;
    }

-- a reply is a read-only one to this call of the client
abbrev pub answers : ℕ → ℕ → Reply → Bool
answers client timestamp r =
    ((r.client.number == client) && (r.timestamp.0 == timestamp)) && same_mode r.kind modes.ReadOnly

-- the scan of a client, by its number
abbrev pub scan_at : List (ℕ × ClientScan) → ℕ → ClientScanData
scan_at scans client = option_map_or scan_data (lookup (is_at (nat_cmp client)) scans) empty_scan

-- the scans are those of the past
abbrev pub AreScans : List Entry → List (ℕ × ClientScan) → Type 0
AreScans past scans = (client : ℕ) → scan_at scans client ≡ scan_of (client_party client) past

-- the party is this client, or none
abbrev pub IsClientIn : ℕ → Option ℕ → Type 0
IsClientIn party None = party < FIRST_CLIENT
IsClientIn party (Some client) = party ≡ client_party client

-- the entry is of this client, or of none
abbrev pub IsClientOf : Entry → Option ℕ → Type 0
IsClientOf e client = IsClientIn (party_of e) client

-- the read, or none, that an entry ends after each past of these scans
abbrev pub EntryEndsRead : Membership → List Rise → List (ℕ × ClientScan) → Entry → Option Placing → Type 0
EntryEndsRead m found scans e read =
    (past : List Entry) → AreScans past scans → read ≡ entry_read m (position_in found) past e

-- the entry ends no read, whatever came before
abbrev pub EndsNone : Entry → Type 0
EndsNone e = (m : Membership) (at : ℕ → ℕ) (past : List Entry) → None ≡ entry_read m at past e

-- an entry leads from scans to scans
abbrev pub NotesEntry : ℕ → Entry → List (ℕ × ClientScan) → List (ℕ × ClientScan) → Type 0
NotesEntry position e old new =
    (past : List Entry) → position ≡ length past → AreScans past old → AreScans (e ∷ past) new

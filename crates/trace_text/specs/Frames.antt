-- The contents of frames, as text.
use Rattle.std.specs.Prelude.{ℕ, nat_lt, if◌then◌else◌, List, [], ◌∷◌, ◌++◌, length, take, codes, Option, Some, None}
use Rattle.std.specs.Fmt.{decimal}
use Rattle.terms.specs.declared.parties.TheConstants.{FIRST_CLIENT}
use Rattle.terms.specs.Parties.{client_number}
use Rattle.hex.specs.Hex.{encode_lower}
use Rattle.terms.specs.declared.order.Mode.{Mode}
use Rattle.terms.specs.declared.order.Mode.TheVariants as modes
use Rattle.terms.specs.declared.state.Level.{Level}
use Rattle.terms.specs.declared.state.Level.TheVariants as levels
use Rattle.tuple_codec.specs.Operations.{Operation, Outcome}
use Rattle.tuple_text.specs.Written.{operation_written, outcome_text}
use Rattle.wire_format.specs.Messages.{CheckpointEntryData, BatchEntryData, ViewChangeData, NewViewData, MessageData, request, pre_prepare, prepare, commit, checkpoint, view_change, new_view, reply, fetch, meta, page, BodyData, FrameData}
use Rattle.wire_format.specs.Words.{frame_of, receivers_of, requests_of}
use Rattle.trace_text.specs.Lists.{separated_or}

-- replica 0 stands as r0, client 0 as c0
abbrev pub party_text : ℕ → List ℕ
party_text p = if nat_lt p FIRST_CLIENT then 114 ∷ decimal p else 99 ∷ decimal (client_number p)

-- The first four bytes of a digest are shown.
abbrev pub short : List ℕ → List ℕ
short digest = encode_lower (take 4 digest)

abbrev pub mode_text : Mode → List ℕ
mode_text modes.Ordered = codes "ordered"
mode_text modes.ReadOnly = codes "read-only"

-- a part of a state's tree
abbrev pub place_text : Level → ℕ → List ℕ
place_text levels.Root index = codes "root"
place_text levels.Inner index = codes "inner " ++ decimal index
place_text levels.Page index = codes "page " ++ decimal index

-- ---- batches

-- the client and the timestamp of a request
abbrev pub call_by : ℕ → MessageData → List ℕ
call_by sender (request timestamp mode operation) = party_text sender ++ codes ":" ++ decimal timestamp
call_by sender _ = []

abbrev pub shown_call : Option FrameData → List ℕ
shown_call None = []
shown_call (Some f) = call_by f.body.sender f.body.message

abbrev pub call_text : List ℕ → List ℕ
call_text frame = shown_call (frame_of frame)

-- the clients and timestamps of the requests of a batch's text
abbrev pub calls_text : List ℕ → List ℕ
calls_text batch = separated_or (codes " ") (codes "null") call_text (requests_of batch)

-- ---- messages

-- a word, a sender and a number; a word, a sender, a view and a number
abbrev pub sender_and_number : List ℕ → List ℕ → ℕ → List ℕ
sender_and_number word sender number = word ++ codes " " ++ sender ++ codes " number " ++ decimal number ++ codes " "

abbrev pub of_view : List ℕ → List ℕ → ℕ → ℕ → List ℕ
of_view word sender view number =
    word ++ codes " " ++ sender ++ codes " view " ++ decimal view ++ codes " number " ++ decimal number ++ codes " "

-- the words before the operation
abbrev pub request_words : List ℕ → ℕ → Mode → List ℕ
request_words sender timestamp mode =
    codes "request " ++ sender ++ codes " time " ++ decimal timestamp ++ codes " " ++ mode_text mode ++ codes " "

abbrev pub request_text : List ℕ → ℕ → Mode → Operation → List ℕ
request_text sender timestamp mode operation = request_words sender timestamp mode ++ operation_written operation

abbrev pub pre_prepare_text : List ℕ → ℕ → ℕ → List ℕ → List ℕ
pre_prepare_text sender view number batch = of_view (codes "pre-prepare") sender view number ++ calls_text batch

-- a prepare or a commit
abbrev pub vote_text : List ℕ → List ℕ → ℕ → ℕ → List ℕ → List ℕ
vote_text word sender view number digest = of_view word sender view number ++ codes "digest " ++ short digest

abbrev pub checkpoint_text : List ℕ → ℕ → List ℕ → List ℕ
checkpoint_text sender number root = sender_and_number (codes "checkpoint") sender number ++ codes "root " ++ short root

abbrev pub shown_checkpoint_entry : CheckpointEntryData → List ℕ
shown_checkpoint_entry e = decimal e.number ++ codes ":" ++ short e.digest

abbrev pub shown_batch_entry : BatchEntryData → List ℕ
shown_batch_entry e = decimal e.number ++ codes ":" ++ short e.digest ++ codes ":" ++ decimal e.view

abbrev pub shown_batch_entries : List BatchEntryData → List ℕ
shown_batch_entries es = separated_or (codes ",") (codes "-") shown_batch_entry es

-- the words before the checkpoints
abbrev pub changed : List ℕ → ℕ → ℕ → List ℕ
changed sender view low =
    codes "view-change " ++ sender ++ codes " view " ++ decimal view ++ codes " low " ++ decimal low
    ++ codes " checkpoints "

abbrev pub shown_view_change : List ℕ → ViewChangeData → List ℕ
shown_view_change sender c =
    changed sender c.view c.low ++ separated_or (codes ",") (codes "-") shown_checkpoint_entry c.checkpoints
    ++ codes " prepared " ++ shown_batch_entries c.prepared
    ++ codes " pre-prepared " ++ shown_batch_entries c.pre_prepared

-- the sender of a frame
abbrev pub shown_sender : Option FrameData → List ℕ
shown_sender None = []
shown_sender (Some f) = party_text f.body.sender

abbrev pub sender_text : List ℕ → List ℕ
sender_text frame = shown_sender (frame_of frame)

abbrev pub batch_in_brackets : List ℕ → List ℕ
batch_in_brackets batch = codes "[" ++ calls_text batch ++ codes "]"

-- the words before the senders of the view changes
abbrev pub new_view_words : List ℕ → ℕ → List ℕ
new_view_words sender view = codes "new-view " ++ sender ++ codes " view " ++ decimal view ++ codes " changes "

-- the senders of the view changes, the checkpoint that the view starts from, and its batches
abbrev pub shown_new_view : List ℕ → NewViewData → List ℕ
shown_new_view sender n =
    new_view_words sender n.view ++ separated_or (codes ",") (codes "-") sender_text n.changes
    ++ codes " start " ++ decimal n.start ++ codes " root " ++ short n.root
    ++ codes " batches " ++ separated_or (codes " ") (codes "-") batch_in_brackets n.batches

-- the words before the outcome
abbrev pub replied : List ℕ → ℕ → ℕ → Mode → ℕ → List ℕ
replied sender client timestamp kind number =
    codes "reply " ++ sender ++ codes " client " ++ party_text client ++ codes " time " ++ decimal timestamp
    ++ codes " " ++ mode_text kind ++ codes " number " ++ decimal number ++ codes " "

abbrev pub shown_reply : List ℕ → ℕ → ℕ → Mode → ℕ → Outcome → List ℕ
shown_reply sender client timestamp kind number outcome =
    replied sender client timestamp kind number ++ outcome_text outcome

-- a fetch or a meta
abbrev pub part_text : List ℕ → List ℕ → ℕ → Level → ℕ → List ℕ
part_text word sender number level index = sender_and_number word sender number ++ place_text level index

abbrev pub page_part_text : List ℕ → ℕ → ℕ → List ℕ → List ℕ
page_part_text sender number index text =
    sender_and_number (codes "page") sender number ++ codes "page " ++ decimal index ++ codes " bytes "
    ++ decimal (length text)

abbrev pub message_text : List ℕ → MessageData → List ℕ
message_text s (request timestamp mode operation) = request_text s timestamp mode operation
message_text s (pre_prepare view number batch) = pre_prepare_text s view number batch
message_text s (prepare view number digest) = vote_text (codes "prepare") s view number digest
message_text s (commit view number digest) = vote_text (codes "commit") s view number digest
message_text s (checkpoint number root) = checkpoint_text s number root
message_text s (view_change c) = shown_view_change s c
message_text s (new_view n) = shown_new_view s n
message_text s (reply client timestamp kind number outcome) = shown_reply s client timestamp kind number outcome
message_text s (fetch number level index) = part_text (codes "fetch") s number level index
message_text s (meta number level index digests) = part_text (codes "meta") s number level index
message_text s (page number index text) = page_part_text s number index text

abbrev pub shown_body : BodyData → List ℕ
shown_body b = message_text (party_text b.sender) b.message

-- ---- frames

-- For bytes that are no frame, the text shows how many there are.
abbrev pub shown_frame_of : ℕ → Option FrameData → List ℕ
shown_frame_of len None = decimal len ++ codes " bytes that are no frame"
shown_frame_of len (Some f) = shown_body f.body

abbrev pub shown_frame : List ℕ → List ℕ
shown_frame bytes = shown_frame_of (length bytes) (frame_of bytes)

-- The receivers for whom a frame has a MAC; a signature is for all.
abbrev pub shown_receivers : Option FrameData → List ℕ
shown_receivers None = codes "all"
shown_receivers (Some f) = separated_or (codes ",") (codes "all") party_text (receivers_of f.authenticator)

abbrev pub receivers_text : List ℕ → List ℕ
receivers_text bytes = shown_receivers (frame_of bytes)

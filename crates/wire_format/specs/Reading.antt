-- Readers of the value at the front of bytes. They give it with the bytes after it, or None if no value stands there.
-- The contracts of private functions use these readers; those of public functions use Spelling alone.
use Rattle.std.specs.Prelude.{ℕ, zero, suc, Bool, true, false, ◌&&◌, ◌||◌, ◌==◌, nat_lt, nat_le, is_some, if◌then◌else◌}
use Rattle.std.specs.Prelude.{List, [], ◌∷◌, ◌++◌, length, slice_index, Option, Some, None}
use Rattle.std.specs.Bool.{then_some}
use Rattle.terms.specs.declared.parties.TheConstants.{FIRST_CLIENT}
use Rattle.tuple_tree.specs.Reading.{◌>>=◌, Reader, read_as, byte_at, bytes_at, number_of}
use Rattle.tuple_codec.specs.Reading.{operation_at, outcome_at}
use Rattle.terms.specs.declared.order.Mode.{Mode}
use Rattle.terms.specs.declared.order.Mode.TheVariants as modes
use Rattle.terms.specs.declared.state.Level.{Level}
use Rattle.terms.specs.declared.state.Level.TheVariants as levels
use Rattle.wire_format.specs.Faults.{limit_at}
use Rattle.wire_format.specs.Messages.{CheckpointEntryData, BatchEntryData, ViewChangeData, MessageData, request}
use Rattle.wire_format.specs.Messages.{pre_prepare, prepare, commit, checkpoint, view_change, new_view, reply, fetch}
use Rattle.wire_format.specs.Messages.{meta, page, BodyData, MacData, AuthenticatorData, macs, signature, FrameData}
use Rattle.wire_format.specs.Spelling.{pieces_spelling, last_index, has_children, checkpoint_entry_before}
use Rattle.wire_format.specs.Spelling.{batch_entry_before, named_before, mac_before, sender_before, is_signed}
use Rattle.wire_format.specs.Spelling.{is_ordered_request, frame_limit}

-- ---- forms

-- one value, and another after it
abbrev pub both : {A B : Type 0} → Reader A → Reader B → Reader (A × B)
both at next bs = at bs >>= λ x. next x.1 >>= λ y. Some ((x.0, y.0), y.1)

-- a value that passes the test
abbrev pub passing : {A : Type 0} → (A → Bool) → Reader A → Reader A
passing test at bs = at bs >>= λ x. then_some (test x.0) x

-- n more values after those of the list, each of which fits after those before it
abbrev pub more_at : {A : Type 0} → Reader A → (List A → A → Bool) → ℕ → List A → Reader (List A)
more_at at fits zero xs bs = Some (xs, bs)
more_at at fits (suc n) xs bs =
    at bs >>= λ x. if fits xs x.0 then more_at at fits n (xs ++ x.0 ∷ []) x.1 else None

-- a count, and so many values
abbrev pub counted_at : {A : Type 0} → Reader ℕ → Reader A → (List A → A → Bool) → Reader (List A)
counted_at count at fits bs = count bs >>= λ n. more_at at fits n.0 [] n.1

-- any item
abbrev pub anyhow : {A : Type 0} → List A → A → Bool
anyhow xs x = true

-- an item that comes strictly after the last one
abbrev pub comes_after : {A : Type 0} → (A → A → Bool) → List A → A → Bool
comes_after before [] x = true
comes_after before (y ∷ []) x = before y x
comes_after before (y ∷ z ∷ ys) x = comes_after before (z ∷ ys) x

-- the value, if no bytes are left
abbrev pub whole_value : {A : Type 0} → Option (A × List ℕ) → Option A
whole_value None = None
whole_value (Some x) = at_end x.0 x.1
  where
    at_end : {A : Type 0} → A → List ℕ → Option A
    at_end x [] = Some x
    at_end x (b ∷ bs) = None

-- ---- parts

-- a digest of 32 bytes
unfoldable pub digest_at : Reader (List ℕ)
digest_at bs = bytes_at 32 bs

-- the mode that a byte spells: 00 ordered, 01 read-only
abbrev pub mode_of : ℕ → Option Mode
mode_of b = if b == 0 then Some modes.Ordered else (if b == 1 then Some modes.ReadOnly else None)

-- a mode of one byte
unfoldable pub mode_at : Reader Mode
mode_at bs = byte_at bs >>= λ b. mode_of b.0 >>= λ m. Some (m, b.1)

-- the level that a byte spells: 00 the root, 01 an inner part, 02 a page
abbrev pub level_of : ℕ → Option Level
level_of b =
    if b == 0 then Some levels.Root
    else (if b == 1 then Some levels.Inner else (if b == 2 then Some levels.Page else None))

-- a level of one byte
unfoldable pub level_at : Reader Level
level_at bs = byte_at bs >>= λ b. level_of b.0 >>= λ l. Some (l, b.1)

-- four bytes of length, and so many bytes
unfoldable pub piece_at : Reader (List ℕ)
piece_at bs = number_of 4 bs >>= λ n. bytes_at n.0 n.1

-- a checkpoint as a view change lists it: number and digest
unfoldable pub checkpoint_entry_at : Reader CheckpointEntryData
checkpoint_entry_at bs =
    read_as (λ p. record { number = p.0; digest = p.1 }) (both (number_of 8) digest_at) bs

-- a batch as a view change lists it: number, digest and view
unfoldable pub batch_entry_at : Reader BatchEntryData
batch_entry_at bs =
    read_as (λ p. record { number = p.0; digest = p.1.0; view = p.1.1 })
    (both (number_of 8) (both digest_at (number_of 8))) bs

-- a count of 0 to 3, and so many checkpoints, ascending by number
unfoldable pub checkpoint_entries_at : Reader (List CheckpointEntryData)
checkpoint_entries_at bs =
    counted_at (passing (λ n. nat_le n 3) byte_at) checkpoint_entry_at
    (comes_after checkpoint_entry_before) bs

-- a count of two bytes, and so many batch entries, ascending in the given order
unfoldable pub batch_entries_at : (BatchEntryData → BatchEntryData → Bool) → Reader (List BatchEntryData)
batch_entries_at before bs = counted_at (number_of 2) batch_entry_at (comes_after before) bs

-- the fields of a view change: view, low mark, checkpoints, prepared and pre-prepared batches
unfoldable pub view_change_at : Reader ViewChangeData
view_change_at bs =
    read_as
    (λ p. record {
      view = p.0;
      low = p.1.0;
      checkpoints = p.1.1.0;
      prepared = p.1.1.1.0;
      pre_prepared = p.1.1.1.1;
    })
    (both (number_of 8) (both (number_of 8) (both checkpoint_entries_at
    (both (batch_entries_at batch_entry_before) (batch_entries_at named_before))))) bs

-- a receiver, and the MAC for it
unfoldable pub mac_at : Reader MacData
mac_at bs = read_as (λ p. record { receiver = p.0; mac = p.1 }) (both (number_of 2) digest_at) bs

-- a count of 1 to 10, and so many MACs, their receivers ascending
unfoldable pub macs_at : Reader (List MacData)
macs_at bs =
    counted_at (passing (λ n. nat_le 1 n && nat_le n 10) byte_at) mac_at (comes_after mac_before) bs

-- a signature if the message is signed, and MACs if not
abbrev pub authenticator_of : Bool → List ℕ → Option AuthenticatorData
authenticator_of signed [] = None
authenticator_of false (b ∷ bs) = if b == 0 then whole_value (read_as macs macs_at bs) else None
authenticator_of true (b ∷ bs) =
    if b == 1 && (length bs == 16577 && nat_lt (slice_index bs 0) 64) then Some (signature bs) else None

-- ---- frames, given the reader of the message of a type

-- a body, whole: type, sender, and the message's fields
abbrev pub body_by : (ℕ → List ℕ → Option MessageData) → List ℕ → Option BodyData
body_by message bs =
    byte_at bs >>= λ t. number_of 2 t.1 >>= λ s. message t.0 s.1
    >>= λ m. Some (record { sender = s.0; message = m })

-- a frame within its limit, whole: a body after its length, and the authenticator that its message needs
abbrev pub frame_by : (ℕ → List ℕ → Option MessageData) → List ℕ → Option FrameData
frame_by message bs =
    piece_at bs >>= λ text. body_by message text.0
    >>= λ body. authenticator_of (is_signed body.message) text.1
    >>= λ authenticator. then_some (nat_le (length bs) (frame_limit body.message))
    (record { body = body; authenticator = authenticator })

-- ---- messages that carry no frames

-- the fields of a request: timestamp, mode and operation
unfoldable pub request_at : Reader MessageData
request_at bs =
    read_as (λ p. request p.0 p.1.0 p.1.1) (both (number_of 8) (both mode_at operation_at)) bs

-- two numbers and a digest
unfoldable pub vote_at : Reader (ℕ × (ℕ × List ℕ))
vote_at bs = both (number_of 8) (both (number_of 8) digest_at) bs

-- the fields of a prepare: view, number and digest
abbrev pub prepare_at : Reader MessageData
prepare_at bs = read_as (λ p. prepare p.0 p.1.0 p.1.1) vote_at bs

-- the fields of a commit: view, number and digest
abbrev pub commit_at : Reader MessageData
commit_at bs = read_as (λ p. commit p.0 p.1.0 p.1.1) vote_at bs

-- the fields of a checkpoint: number and root
unfoldable pub checkpoint_at : Reader MessageData
checkpoint_at bs = read_as (λ p. checkpoint p.0 p.1) (both (number_of 8) digest_at) bs

-- the party number of a client
unfoldable pub client_at : Reader ℕ
client_at bs = passing (λ n. nat_le FIRST_CLIENT n) (number_of 2) bs

-- the fields of a reply: client, timestamp, kind, number and answer
unfoldable pub reply_at : Reader MessageData
reply_at bs =
    read_as (λ p. reply p.0 p.1.0 p.1.1.0 p.1.1.1.0 p.1.1.1.1)
    (both client_at (both (number_of 8) (both mode_at (both (number_of 8) outcome_at)))) bs

-- a number, and a level with an index in it
unfoldable pub place_at : Reader (ℕ × (Level × ℕ))
place_at bs =
    passing (λ p. nat_le p.1.1 (last_index p.1.0))
    (both (number_of 8) (both level_at (number_of 2))) bs

-- the fields of a fetch: number, level and index
unfoldable pub fetch_at : Reader MessageData
fetch_at bs = read_as (λ p. fetch p.0 p.1.0 p.1.1) place_at bs

-- n digests, one after another
unfoldable pub digest_list_at : ℕ → Reader (List (List ℕ))
digest_list_at n bs = more_at digest_at anyhow n [] bs

-- the fields of a meta: number, level, index and the digests of the 32 children; a page has none
unfoldable pub meta_at : Reader MessageData
meta_at bs =
    read_as (λ p. meta p.0.0 p.0.1.0 p.0.1.1 p.1)
    (both (passing (λ p. has_children p.1.0) place_at) (digest_list_at 32)) bs

-- the fields of a page: number, index and text, up to the last byte
unfoldable pub page_at : Reader MessageData
page_at bs =
    both (number_of 8) (passing (λ n. nat_le n 1023) (number_of 2)) bs
    >>= λ p. Some (page p.0.0 p.0.1 p.1, [])

-- ---- messages that other messages carry

-- the fields of an ordered request, whole, if the type is 41
abbrev pub request_by : ℕ → List ℕ → Option MessageData
request_by type bs =
    if type == 0x41 then whole_value (passing is_ordered_request request_at bs) else None

-- the fields of a view change, whole, if the type is 46
abbrev pub view_change_by : ℕ → List ℕ → Option MessageData
view_change_by type bs = if type == 0x46 then whole_value (read_as view_change view_change_at bs) else None

-- whether the bytes are the frame of an ordered request
unfoldable pub is_request : List ℕ → Bool
is_request bs = is_some (frame_by request_by bs)

-- whether the bytes are the frame of a view change
unfoldable pub is_change : List ℕ → Bool
is_change bs = is_some (frame_by view_change_by bs)

-- the length of a request, and the request
abbrev pub request_frame_at : Reader (List ℕ)
request_frame_at = passing is_request piece_at

-- so many requests, one after another
abbrev pub request_frames_at : ℕ → Reader (List (List ℕ))
request_frames_at n bs = more_at request_frame_at anyhow n [] bs

-- the length of a view change, and the view change
abbrev pub change_frame_at : Reader (List ℕ)
change_frame_at = passing is_change piece_at

-- a count from least to 16, and so many requests
unfoldable pub requests_at : ℕ → Reader (List (List ℕ))
requests_at least bs =
    counted_at (passing (λ n. nat_le least n && nat_le n 16) byte_at) request_frame_at anyhow bs

-- the text of a batch of least or more requests
unfoldable pub batch_text_at : ℕ → Reader (List ℕ)
batch_text_at least bs = read_as pieces_spelling (requests_at least) bs

-- a count of 0 to 32, and the texts of so many batches of 0 to 16 requests
unfoldable pub batches_at : Reader (List (List ℕ))
batches_at bs = counted_at (passing (λ n. nat_le n 32) byte_at) (batch_text_at 0) anyhow bs

-- a count of 1 to 10, and so many view changes, their senders ascending
unfoldable pub changes_at : Reader (List (List ℕ))
changes_at bs =
    counted_at (passing (λ n. nat_le 1 n && nat_le n 10) byte_at) change_frame_at
    (comes_after sender_before) bs

-- the fields of a new view: view, view changes, start, root and batches
unfoldable pub new_view_at : Reader MessageData
new_view_at bs =
    read_as
    (λ p. new_view (record {
      view = p.0;
      changes = p.1.0;
      start = p.1.1.0;
      root = p.1.1.1.0;
      batches = p.1.1.1.1;
    }))
    (both (number_of 8) (both changes_at (both (number_of 8) (both digest_at batches_at)))) bs

-- the fields of a pre-prepare: view, number and a batch of 1 to 16 requests
unfoldable pub pre_prepare_at : Reader MessageData
pre_prepare_at bs =
    read_as (λ p. pre_prepare p.0 p.1.0 p.1.1)
    (both (number_of 8) (both (number_of 8) (batch_text_at 1))) bs

-- ---- all messages

-- the fields of a message of this type, 41 to 4b
unfoldable pub message_at : ℕ → Reader MessageData
message_at type bs =
    if type == 0x41 then request_at bs
    else (if type == 0x42 then pre_prepare_at bs
    else (if type == 0x43 then prepare_at bs
    else (if type == 0x44 then commit_at bs
    else (if type == 0x45 then checkpoint_at bs
    else (if type == 0x46 then read_as view_change view_change_at bs
    else (if type == 0x47 then new_view_at bs
    else (if type == 0x48 then reply_at bs
    else (if type == 0x49 then fetch_at bs
    else (if type == 0x4a then meta_at bs else (if type == 0x4b then page_at bs else None))))))))))

-- the fields of a message of this type, whole
unfoldable pub message_by : ℕ → List ℕ → Option MessageData
message_by type bs = whole_value (message_at type bs)

-- the body that the bytes spell, whole
unfoldable pub body_of : List ℕ → Option BodyData
body_of bs = body_by message_by bs

-- the frame that the bytes spell, whole
unfoldable pub frame_read : List ℕ → Option FrameData
frame_read bs = frame_by message_by bs

-- ---- view changes that are too long

-- the length at the front is over the limit of a view change
unfoldable pub is_over : List ℕ → Bool
is_over bs = over (number_of 4 bs)
  where
    over : Option (ℕ × List ℕ) → Bool
    over None = false
    over (Some n) = nat_lt 262144 n.0

abbrev pub of_some : {A : Type 0} → (A → Bool) → Option A → Bool
of_some test None = false
of_some test (Some x) = test x

-- one of n more view changes has a length over the limit, and those before it can be read
abbrev pub over_in : ℕ → List (List ℕ) → List ℕ → Bool
over_in zero xs bs = false
over_in (suc n) xs bs =
    if is_over bs then true
    else of_some (λ x. comes_after sender_before xs x.0 && over_in n (xs ++ x.0 ∷ []) x.1)
    (change_frame_at bs)

unfoldable pub changes_over : List ℕ → Bool
changes_over bs =
    of_some (λ n. over_in n.0 [] n.1)
    (passing (λ n. nat_le 1 n && nat_le n 10) byte_at bs)

unfoldable pub new_view_over : List ℕ → Bool
new_view_over bs = of_some (λ v. changes_over v.1) (number_of 8 bs)

unfoldable pub message_over : ℕ → List ℕ → Bool
message_over type bs = type == 0x47 && new_view_over bs

unfoldable pub body_over : List ℕ → Bool
body_over bs = of_some (λ t. of_some (λ s. message_over t.0 s.1) (number_of 2 t.1)) (byte_at bs)

-- the bytes carry a view change that is too long
unfoldable pub frame_over : List ℕ → Bool
frame_over bs = of_some (λ text. body_over text.0) (piece_at bs)

-- the bytes, or a view change that they carry, are too long
unfoldable pub too_large : List ℕ → Bool
too_large bs = nat_lt (limit_at bs) (length bs) || frame_over bs

-- The bytes of bodies, authenticators and frames. Numbers are big-endian. Each value has one spelling.
use Rattle.std.specs.Prelude.{◌≡◌, ℕ, ◌<◌, ◌≤◌, ◌^◌, Bool, true, false, ◌||◌, ◌&&◌, nat_lt, ◌==◌, IsTrue, List, [], ◌∷◌}
use Rattle.std.specs.Prelude.{◌++◌, length, drop, slice_index}
use Rattle.std.specs.Int.{w16, w32, w64, to_be_bytes}
use Rattle.byteorder.specs.Endian.{big_number}
use Rattle.tuple_tree.specs.Values.{AreBytes}
use Rattle.tuple_codec.specs.Operations.{IsOperation, IsOutcome}
use Rattle.tuple_codec.specs.Spelling.{Spells, operation_spelling, outcome_spelling}
use Rattle.terms.specs.declared.parties.TheConstants.{FIRST_CLIENT}
use Rattle.terms.specs.declared.order.Mode.{Mode}
use Rattle.terms.specs.declared.order.Mode.TheVariants as modes
use Rattle.terms.specs.declared.state.Level.{Level}
use Rattle.terms.specs.declared.state.Level.TheVariants as levels
use Rattle.wire_format.specs.Lists.{Each, each_spelling, ascends}
use Rattle.wire_format.specs.Messages.{CheckpointEntryData, BatchEntryData, ViewChangeData, NewViewData, MessageData}
use Rattle.wire_format.specs.Messages.{request, pre_prepare, prepare, commit, checkpoint, view_change, new_view, reply}
use Rattle.wire_format.specs.Messages.{fetch, meta, page, BodyData, MacData, AuthenticatorData, macs, signature}
use Rattle.wire_format.specs.Messages.{FrameData}

-- ---- the bytes

-- the byte of a mode: 00 ordered, 01 read-only
abbrev pub mode_byte : Mode → ℕ
mode_byte modes.Ordered = 0
mode_byte modes.ReadOnly = 1

-- the byte of a level: 00 the root, 01 an inner part, 02 a page
abbrev pub level_byte : Level → ℕ
level_byte levels.Root = 0
level_byte levels.Inner = 1
level_byte levels.Page = 2

-- a number and a digest
abbrev pub checkpoint_entry_spelling : CheckpointEntryData → List ℕ
checkpoint_entry_spelling m = to_be_bytes w64 m.number ++ m.digest

-- a number, a digest and a view
abbrev pub batch_entry_spelling : BatchEntryData → List ℕ
batch_entry_spelling c = to_be_bytes w64 c.number ++ (c.digest ++ to_be_bytes w64 c.view)

-- four bytes of length, and so many bytes
abbrev pub piece : List ℕ → List ℕ
piece bs = to_be_bytes w32 (length bs) ++ bs

-- a count, and the length and the bytes of each frame
abbrev pub pieces_spelling : List (List ℕ) → List ℕ
pieces_spelling frames = length frames ∷ each_spelling piece frames

-- a count byte, and each checkpoint
abbrev pub checkpoint_entries_spelling : List CheckpointEntryData → List ℕ
checkpoint_entries_spelling ms = length ms ∷ each_spelling checkpoint_entry_spelling ms

-- a count of two bytes, and each batch entry
abbrev pub batch_entries_spelling : List BatchEntryData → List ℕ
batch_entries_spelling cs = to_be_bytes w16 (length cs) ++ each_spelling batch_entry_spelling cs

-- the fields of a view change: view, low mark, checkpoints, prepared and pre-prepared batches
abbrev pub view_change_spelling : ViewChangeData → List ℕ
view_change_spelling c =
    to_be_bytes w64 c.view
    ++ (to_be_bytes w64 c.low
    ++ (checkpoint_entries_spelling c.checkpoints
    ++ (batch_entries_spelling c.prepared ++ batch_entries_spelling c.pre_prepared)))

-- a count, and each batch's text
abbrev pub batches_spelling : List (List ℕ) → List ℕ
batches_spelling batches = length batches ∷ each_spelling (λ b. b) batches

-- the fields of a new view: view, view changes, start, root and batches
abbrev pub new_view_spelling : NewViewData → List ℕ
new_view_spelling n =
    to_be_bytes w64 n.view
    ++ (pieces_spelling n.changes
    ++ (to_be_bytes w64 n.start ++ (n.root ++ batches_spelling n.batches)))

-- a view, a number and a digest
abbrev pub vote_spelling : ℕ → ℕ → List ℕ → List ℕ
vote_spelling view number digest = to_be_bytes w64 view ++ (to_be_bytes w64 number ++ digest)

-- the type of a message: 41 to 4b
abbrev pub message_type : MessageData → ℕ
message_type (request timestamp mode operation) = 0x41
message_type (pre_prepare view number batch) = 0x42
message_type (prepare view number digest) = 0x43
message_type (commit view number digest) = 0x44
message_type (checkpoint number root) = 0x45
message_type (view_change c) = 0x46
message_type (new_view n) = 0x47
message_type (reply client timestamp kind number outcome) = 0x48
message_type (fetch number level index) = 0x49
message_type (meta number level index digests) = 0x4a
message_type (page number index text) = 0x4b

-- the fields after the type and the sender
abbrev pub fields_spelling : MessageData → List ℕ
fields_spelling (request timestamp mode operation) =
    to_be_bytes w64 timestamp ++ mode_byte mode ∷ operation_spelling operation
fields_spelling (pre_prepare view number batch) =
    to_be_bytes w64 view ++ (to_be_bytes w64 number ++ batch)
fields_spelling (prepare view number digest) = vote_spelling view number digest
fields_spelling (commit view number digest) = vote_spelling view number digest
fields_spelling (checkpoint number root) = to_be_bytes w64 number ++ root
fields_spelling (view_change c) = view_change_spelling c
fields_spelling (new_view n) = new_view_spelling n
fields_spelling (reply client timestamp kind number outcome) =
    to_be_bytes w16 client
    ++ (to_be_bytes w64 timestamp
    ++ mode_byte kind ∷ (to_be_bytes w64 number ++ outcome_spelling outcome))
fields_spelling (fetch number level index) =
    to_be_bytes w64 number ++ level_byte level ∷ to_be_bytes w16 index
fields_spelling (meta number level index digests) =
    to_be_bytes w64 number
    ++ level_byte level ∷ (to_be_bytes w16 index ++ each_spelling (λ d. d) digests)
fields_spelling (page number index text) =
    to_be_bytes w64 number ++ (to_be_bytes w16 index ++ text)

-- a type, a sender and the fields
abbrev pub body_spelling : BodyData → List ℕ
body_spelling b = message_type b.message ∷ (to_be_bytes w16 b.sender ++ fields_spelling b.message)

-- a receiver, and the MAC for it
abbrev pub mac_spelling : MacData → List ℕ
mac_spelling m = to_be_bytes w16 m.receiver ++ m.mac

-- 00 before a count and the MACs, 01 before a signature
abbrev pub authenticator_spelling : AuthenticatorData → List ℕ
authenticator_spelling (macs ms) = 0 ∷ length ms ∷ each_spelling mac_spelling ms
authenticator_spelling (signature s) = 1 ∷ s

abbrev pub frame_spelling : FrameData → List ℕ
frame_spelling f = piece (body_spelling f.body) ++ authenticator_spelling f.authenticator

-- ---- the messages that a party may send

pub record IsDigest (bs : List ℕ) : Type 0 where
  pub whole : length bs ≡ 32
  pub bytes : AreBytes bs

-- The last index of a level.
abbrev pub last_index : Level → ℕ
last_index levels.Root = 0
last_index levels.Inner = 31
last_index levels.Page = 1023

-- whether a part of this level has children: a page has none
abbrev pub has_children : Level → Bool
has_children levels.Root = true
has_children levels.Inner = true
has_children levels.Page = false

abbrev pub IsCheckpointEntry : CheckpointEntryData → Type 0
IsCheckpointEntry m = (m.number < 2 ^ 64) × IsDigest m.digest

abbrev pub IsBatchEntry : BatchEntryData → Type 0
IsBatchEntry c = (c.number < 2 ^ 64) × (IsDigest c.digest × (c.view < 2 ^ 64))

-- the order of checkpoints in a view change: by number
abbrev pub checkpoint_entry_before : CheckpointEntryData → CheckpointEntryData → Bool
checkpoint_entry_before a b = nat_lt a.number b.number

-- the order of prepared batches in a view change: by number
abbrev pub batch_entry_before : BatchEntryData → BatchEntryData → Bool
batch_entry_before a b = nat_lt a.number b.number

-- byte by byte: the first byte that differs decides
abbrev pub bytes_before : List ℕ → List ℕ → Bool
bytes_before [] ys = false
bytes_before (x ∷ xs) [] = false
bytes_before (x ∷ xs) (y ∷ ys) = nat_lt x y || (x == y && bytes_before xs ys)

-- by number, and then by digest
abbrev pub named_before : BatchEntryData → BatchEntryData → Bool
named_before a b =
    nat_lt a.number b.number || (a.number == b.number && bytes_before a.digest b.digest)

pub record IsViewChange (c : ViewChangeData) : Type 0 where
  pub view : c.view < 2 ^ 64
  pub low : c.low < 2 ^ 64
  pub few : length c.checkpoints ≤ 3
  pub checkpoints : Each IsCheckpointEntry c.checkpoints
  pub checkpoints_ascend : IsTrue (ascends checkpoint_entry_before c.checkpoints)
  pub prepared_count : length c.prepared < 2 ^ 16
  pub prepared : Each IsBatchEntry c.prepared
  pub prepared_ascend : IsTrue (ascends batch_entry_before c.prepared)
  pub pre_prepared_count : length c.pre_prepared < 2 ^ 16
  pub pre_prepared : Each IsBatchEntry c.pre_prepared
  pub pre_prepared_ascend : IsTrue (ascends named_before c.pre_prepared)

-- A message that a party may send and that carries no frames.
abbrev pub IsPlain : MessageData → Type 0
IsPlain (request timestamp mode operation) = (timestamp < 2 ^ 64) × IsOperation operation
IsPlain (pre_prepare view number batch) = ⊥
IsPlain (prepare view number digest) = (view < 2 ^ 64) × (number < 2 ^ 64) × IsDigest digest
IsPlain (commit view number digest) = (view < 2 ^ 64) × (number < 2 ^ 64) × IsDigest digest
IsPlain (checkpoint number root) = (number < 2 ^ 64) × IsDigest root
IsPlain (view_change c) = IsViewChange c
IsPlain (new_view n) = ⊥
IsPlain (reply client timestamp kind number outcome) =
    (FIRST_CLIENT ≤ client) × (client < 2 ^ 16) × (timestamp < 2 ^ 64) × (number < 2 ^ 64)
    × IsOutcome outcome
IsPlain (fetch number level index) = (number < 2 ^ 64) × (index ≤ last_index level)
IsPlain (meta number level index digests) =
    (number < 2 ^ 64) × IsTrue (has_children level) × (index ≤ last_index level)
    × (length digests ≡ 32) × Each IsDigest digests
IsPlain (page number index text) = (number < 2 ^ 64) × (index ≤ 1023) × AreBytes text

abbrev pub IsMac : MacData → Type 0
IsMac m = (m.receiver < 2 ^ 16) × IsDigest m.mac

-- the order of MACs in an authenticator: by receiver
abbrev pub mac_before : MacData → MacData → Bool
mac_before a b = nat_lt a.receiver b.receiver

-- 1 to 10 MACs, their receivers ascending, or a signature's bytes, the first of which numbers one of 64 keys
abbrev pub IsAuthenticator : AuthenticatorData → Type 0
IsAuthenticator (macs ms) =
    (1 ≤ length ms) × (length ms ≤ 10) × Each IsMac ms × IsTrue (ascends mac_before ms)
IsAuthenticator (signature s) = (length s ≡ 16577) × AreBytes s × (slice_index s 0 < 64)

-- View changes and new views are signed.
abbrev pub is_signed : MessageData → Bool
is_signed (view_change c) = true
is_signed (new_view n) = true
is_signed _ = false

abbrev pub authenticator_is_signed : AuthenticatorData → Bool
authenticator_is_signed (macs ms) = false
authenticator_is_signed (signature s) = true

-- The length of the longest frame of the message.
abbrev pub frame_limit : MessageData → ℕ
frame_limit (view_change c) = 262144
frame_limit _ = 4194304

-- A frame whose message is one of these, with the authenticator that it needs.
pub record IsFrameOf (IsMessage : MessageData → Type 0) (f : FrameData) : Type 0 where
  pub sender : f.body.sender < 2 ^ 16
  pub message : IsMessage f.body.message
  pub authenticator : IsAuthenticator f.authenticator
  pub proved : authenticator_is_signed f.authenticator ≡ is_signed f.body.message
  pub short : length (frame_spelling f) ≤ frame_limit f.body.message

-- whether the message is an ordered request, as batches have them
abbrev pub is_ordered_request : MessageData → Bool
is_ordered_request (request timestamp modes.Ordered operation) = true
is_ordered_request _ = false

abbrev pub is_view_change : MessageData → Bool
is_view_change (view_change c) = true
is_view_change _ = false

-- The bytes are a frame of a message of this sort, which carries no frames itself.
pub record IsCarried (sort : MessageData → Bool) (bs : List ℕ) : Type 0 where
  pub frame : FrameData
  pub spelled : Spells (IsFrameOf IsPlain) frame_spelling bs frame
  pub sorted : IsTrue (sort frame.body.message)

-- The text is a batch of least or more ordered requests, up to 16.
pub record IsBatch (least : ℕ) (text : List ℕ) : Type 0 where
  pub requests : List (List ℕ)
  pub whole : text ≡ pieces_spelling requests
  pub enough : least ≤ length requests
  pub few : length requests ≤ 16
  pub each : Each (IsCarried is_ordered_request) requests

-- the sender that a frame names
abbrev pub sender_in : List ℕ → ℕ
sender_in bs = big_number 2 (drop 5 bs)

-- the order of view changes in a new view: by sender
abbrev pub sender_before : List ℕ → List ℕ → Bool
sender_before a b = nat_lt (sender_in a) (sender_in b)

pub record IsNewView (n : NewViewData) : Type 0 where
  pub view : n.view < 2 ^ 64
  pub some : 1 ≤ length n.changes
  pub few : length n.changes ≤ 10
  pub changes : Each (IsCarried is_view_change) n.changes
  pub ascend : IsTrue (ascends sender_before n.changes)
  pub start : n.start < 2 ^ 64
  pub root : IsDigest n.root
  pub count : length n.batches ≤ 32
  pub batches : Each (IsBatch 0) n.batches

-- A message that a party may send.
abbrev pub IsMessage : MessageData → Type 0
IsMessage (pre_prepare view number batch) = (view < 2 ^ 64) × (number < 2 ^ 64) × IsBatch 1 batch
IsMessage (new_view n) = IsNewView n
IsMessage (request timestamp mode operation) = IsPlain (request timestamp mode operation)
IsMessage (prepare view number digest) = IsPlain (prepare view number digest)
IsMessage (commit view number digest) = IsPlain (commit view number digest)
IsMessage (checkpoint number root) = IsPlain (checkpoint number root)
IsMessage (view_change c) = IsPlain (view_change c)
IsMessage (reply client timestamp kind number outcome) =
    IsPlain (reply client timestamp kind number outcome)
IsMessage (fetch number level index) = IsPlain (fetch number level index)
IsMessage (meta number level index digests) = IsPlain (meta number level index digests)
IsMessage (page number index text) = IsPlain (page number index text)

pub record IsBody (b : BodyData) : Type 0 where
  pub sender : b.sender < 2 ^ 16
  pub message : IsMessage b.message

abbrev pub SpellsBody : List ℕ → BodyData → Type 0
SpellsBody bs b = Spells IsBody body_spelling bs b

abbrev pub SpellsFrame : List ℕ → FrameData → Type 0
SpellsFrame bs f = Spells (IsFrameOf IsMessage) frame_spelling bs f

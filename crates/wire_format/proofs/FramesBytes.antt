-- The frames that the grammar spells are lists of bytes.
use Rattle.std.proofs.Common.{ℕ, ◌<◌, ◌≤◌, Bool, List, [], ◌∷◌, ◌++◌, length, sym, subst, arith}
use Rattle.std.specs.Int.{w16, w32, w64, to_be_bytes}
use Rattle.tuple_tree.specs.Values.{AreBytes}
use Rattle.tuple_codec.specs.Spelling.{operation_spelling, outcome_spelling}
use Rattle.tuple_tree.proofs.Readers.{bytes_append}
use Rattle.terms.specs.declared.order.Mode.{Mode}
use Rattle.terms.specs.declared.order.Mode.TheVariants as modes
use Rattle.terms.specs.declared.state.Level.{Level}
use Rattle.terms.specs.declared.state.Level.TheVariants as levels
use Rattle.wire_format.specs.Lists.{Each, each_spelling}
use Rattle.wire_format.specs.Messages.{CheckpointEntryData, BatchEntryData, ViewChangeData, NewViewData, MessageData}
use Rattle.wire_format.specs.Messages.{request, pre_prepare, prepare, commit, checkpoint, view_change, new_view, reply}
use Rattle.wire_format.specs.Messages.{fetch, meta, page, MacData, AuthenticatorData, macs, signature, FrameData}
use Rattle.wire_format.specs.Spelling.{mode_byte, level_byte, checkpoint_entry_spelling, batch_entry_spelling, piece}
use Rattle.wire_format.specs.Spelling.{pieces_spelling, checkpoint_entries_spelling, batch_entries_spelling}
use Rattle.wire_format.specs.Spelling.{view_change_spelling, batches_spelling, new_view_spelling, message_type}
use Rattle.wire_format.specs.Spelling.{fields_spelling, body_spelling, mac_spelling, authenticator_spelling}
use Rattle.wire_format.specs.Spelling.{frame_spelling, IsDigest, IsCheckpointEntry, IsBatchEntry, IsViewChange, IsPlain}
use Rattle.wire_format.specs.Spelling.{IsMac, IsAuthenticator, IsFrameOf, is_ordered_request, is_view_change, IsCarried}
use Rattle.wire_format.specs.Spelling.{IsBatch, IsNewView, IsMessage, SpellsFrame}
use Rattle.tuple_tree.proofs.NumberBytes.{no_bytes, bytes_more}
use Rattle.tuple_codec.proofs.SpelledBytes.{bytes_2, bytes_4, bytes_8, operation_bytes, outcome_bytes}

-- ---- lists of parts

each_bytes : {A : Type 0} (P : A → Type 0) (spelling : A → List ℕ) → ((x : A) → P x → AreBytes (spelling x)) → (xs : List A) → Each P xs → AreBytes (each_spelling spelling xs)
each_bytes P spelling one [] h = no_bytes
each_bytes P spelling one (x ∷ xs) h = bytes_append (spelling x) (each_spelling spelling xs) (one x h.0) (each_bytes P spelling one xs h.1)

-- a number of eight bytes, and bytes
numbered : (n : ℕ) (bs : List ℕ) → AreBytes bs → AreBytes (to_be_bytes w64 n ++ bs)
numbered n bs h = bytes_append (to_be_bytes w64 n) bs (bytes_8 n) h

indexed : (n : ℕ) (bs : List ℕ) → AreBytes bs → AreBytes (to_be_bytes w16 n ++ bs)
indexed n bs h = bytes_append (to_be_bytes w16 n) bs (bytes_2 n) h

mode_below : (m : Mode) → mode_byte m < 256
mode_below modes.Ordered = omega arith
mode_below modes.ReadOnly = omega arith

level_below : (l : Level) → level_byte l < 256
level_below levels.Root = omega arith
level_below _ = omega arith

type_below : (m : MessageData) → message_type m < 256
type_below (request timestamp mode operation) = omega arith
type_below _ = omega arith

checkpoint_entry_bytes : (m : CheckpointEntryData) → IsCheckpointEntry m → AreBytes (checkpoint_entry_spelling m)
checkpoint_entry_bytes m h = numbered m.number m.digest h.1.bytes

batch_entry_bytes : (c : BatchEntryData) → IsBatchEntry c → AreBytes (batch_entry_spelling c)
batch_entry_bytes c h = numbered c.number (c.digest ++ to_be_bytes w64 c.view) (bytes_append c.digest (to_be_bytes w64 c.view) h.1.0.bytes (bytes_8 c.view))

piece_bytes : (bs : List ℕ) → AreBytes bs → AreBytes (piece bs)
piece_bytes bs h = bytes_append (to_be_bytes w32 (length bs)) bs (bytes_4 (length bs)) h

checkpoint_entries_bytes : (ms : List CheckpointEntryData) → length ms ≤ 3 → Each IsCheckpointEntry ms → AreBytes (checkpoint_entries_spelling ms)
checkpoint_entries_bytes ms few h = bytes_more (length ms) (each_spelling checkpoint_entry_spelling ms) (omega arith) (each_bytes IsCheckpointEntry checkpoint_entry_spelling checkpoint_entry_bytes ms h)

batch_entries_bytes : (cs : List BatchEntryData) → Each IsBatchEntry cs → AreBytes (batch_entries_spelling cs)
batch_entries_bytes cs h = indexed (length cs) (each_spelling batch_entry_spelling cs) (each_bytes IsBatchEntry batch_entry_spelling batch_entry_bytes cs h)

view_change_bytes : (c : ViewChangeData) → IsViewChange c → AreBytes (view_change_spelling c)
view_change_bytes c h =
    numbered c.view (to_be_bytes w64 c.low ++ (checkpoint_entries_spelling c.checkpoints ++ (batch_entries_spelling c.prepared ++ batch_entries_spelling c.pre_prepared)))
    (numbered c.low (checkpoint_entries_spelling c.checkpoints ++ (batch_entries_spelling c.prepared ++ batch_entries_spelling c.pre_prepared))
    (bytes_append (checkpoint_entries_spelling c.checkpoints) (batch_entries_spelling c.prepared ++ batch_entries_spelling c.pre_prepared) (checkpoint_entries_bytes c.checkpoints h.few h.checkpoints)
    (bytes_append (batch_entries_spelling c.prepared) (batch_entries_spelling c.pre_prepared) (batch_entries_bytes c.prepared h.prepared) (batch_entries_bytes c.pre_prepared h.pre_prepared))))

-- ---- messages that carry no frames

vote_bytes : (view number : ℕ) (digest : List ℕ) → IsDigest digest → AreBytes (to_be_bytes w64 view ++ (to_be_bytes w64 number ++ digest))
vote_bytes view number digest h = numbered view (to_be_bytes w64 number ++ digest) (numbered number digest h.bytes)

plain_bytes : (m : MessageData) → IsPlain m → AreBytes (fields_spelling m)
plain_bytes (request timestamp mode operation) h =
    numbered timestamp (mode_byte mode ∷ operation_spelling operation) (bytes_more (mode_byte mode) (operation_spelling operation) (mode_below mode) (operation_bytes operation h.1))
plain_bytes (pre_prepare view number batch) h = absurd h
plain_bytes (prepare view number digest) h = vote_bytes view number digest h.2
plain_bytes (commit view number digest) h = vote_bytes view number digest h.2
plain_bytes (checkpoint number root) h = numbered number root h.1.bytes
plain_bytes (view_change c) h = view_change_bytes c h
plain_bytes (new_view n) h = absurd h
plain_bytes (reply client timestamp kind number outcome) h =
    indexed client (to_be_bytes w64 timestamp ++ mode_byte kind ∷ (to_be_bytes w64 number ++ outcome_spelling outcome))
    (numbered timestamp (mode_byte kind ∷ (to_be_bytes w64 number ++ outcome_spelling outcome))
    (bytes_more (mode_byte kind) (to_be_bytes w64 number ++ outcome_spelling outcome) (mode_below kind)
    (numbered number (outcome_spelling outcome) (outcome_bytes outcome h.4))))
plain_bytes (fetch number level index) h =
    numbered number (level_byte level ∷ to_be_bytes w16 index) (bytes_more (level_byte level) (to_be_bytes w16 index) (level_below level) (bytes_2 index))
plain_bytes (meta number level index digests) h =
    numbered number (level_byte level ∷ (to_be_bytes w16 index ++ each_spelling (λ d. d) digests))
    (bytes_more (level_byte level) (to_be_bytes w16 index ++ each_spelling (λ d. d) digests) (level_below level)
    (indexed index (each_spelling (λ d. d) digests) (each_bytes IsDigest (λ d. d) (λ d h. h.bytes) digests h.4)))
plain_bytes (page number index text) h = numbered number (to_be_bytes w16 index ++ text) (indexed index text h.2)

-- ---- frames, given their sorts of messages

mac_bytes : (m : MacData) → IsMac m → AreBytes (mac_spelling m)
mac_bytes m h = indexed m.receiver m.mac h.1.bytes

authenticator_bytes : (p : AuthenticatorData) → IsAuthenticator p → AreBytes (authenticator_spelling p)
authenticator_bytes (macs ms) h = bytes_more 0 (length ms ∷ each_spelling mac_spelling ms) (omega arith) (bytes_more (length ms) (each_spelling mac_spelling ms) (omega (arith, h.1)) (each_bytes IsMac mac_spelling mac_bytes ms h.2))
authenticator_bytes (signature s) h = bytes_more 1 s (omega arith) h.1

frame_bytes : (IsSaid : MessageData → Type 0) → ((m : MessageData) → IsSaid m → AreBytes (fields_spelling m)) → (f : FrameData) → IsFrameOf IsSaid f → AreBytes (frame_spelling f)
frame_bytes IsSaid fields f h =
    bytes_append (piece (body_spelling f.body)) (authenticator_spelling f.authenticator)
    (piece_bytes (body_spelling f.body)
    (bytes_more (message_type f.body.message) (to_be_bytes w16 f.body.sender ++ fields_spelling f.body.message) (type_below f.body.message)
    (indexed f.body.sender (fields_spelling f.body.message) (fields f.body.message h.message))))
    (authenticator_bytes f.authenticator h.authenticator)

-- ---- messages that other messages carry

carried_bytes : (sort : MessageData → Bool) (bs : List ℕ) → IsCarried sort bs → AreBytes bs
carried_bytes sort bs c = subst AreBytes (sym c.spelled.spelled) (frame_bytes IsPlain plain_bytes c.frame c.spelled.valid)

pieces_bytes : (sort : MessageData → Bool) (frames : List (List ℕ)) → length frames ≤ 16 → Each (IsCarried sort) frames → AreBytes (pieces_spelling frames)
pieces_bytes sort frames few h =
    bytes_more (length frames) (each_spelling piece frames) (omega arith) (each_bytes (IsCarried sort) piece (λ bs c. piece_bytes bs (carried_bytes sort bs c)) frames h)

batch_bytes : (least : ℕ) (text : List ℕ) → IsBatch least text → AreBytes text
batch_bytes least text b = subst AreBytes (sym b.whole) (pieces_bytes is_ordered_request b.requests b.few b.each)

new_view_bytes : (n : NewViewData) → IsNewView n → AreBytes (new_view_spelling n)
new_view_bytes n h =
    numbered n.view (pieces_spelling n.changes ++ (to_be_bytes w64 n.start ++ (n.root ++ batches_spelling n.batches)))
    (bytes_append (pieces_spelling n.changes) (to_be_bytes w64 n.start ++ (n.root ++ batches_spelling n.batches)) (pieces_bytes is_view_change n.changes (omega (arith, h.few)) h.changes)
    (numbered n.start (n.root ++ batches_spelling n.batches)
    (bytes_append n.root (batches_spelling n.batches) h.root.bytes
    (bytes_more (length n.batches) (each_spelling (λ b. b) n.batches) (omega (arith, h.count)) (each_bytes (IsBatch 0) (λ b. b) (batch_bytes 0) n.batches h.batches)))))

message_bytes : (m : MessageData) → IsMessage m → AreBytes (fields_spelling m)
message_bytes (request timestamp mode operation) h = plain_bytes (request timestamp mode operation) h
message_bytes (pre_prepare view number batch) h = numbered view (to_be_bytes w64 number ++ batch) (numbered number batch (batch_bytes 1 batch h.2))
message_bytes (prepare view number digest) h = plain_bytes (prepare view number digest) h
message_bytes (commit view number digest) h = plain_bytes (commit view number digest) h
message_bytes (checkpoint number root) h = plain_bytes (checkpoint number root) h
message_bytes (view_change c) h = view_change_bytes c h
message_bytes (new_view n) h = new_view_bytes n h
message_bytes (reply client timestamp kind number outcome) h = plain_bytes (reply client timestamp kind number outcome) h
message_bytes (fetch number level index) h = plain_bytes (fetch number level index) h
message_bytes (meta number level index digests) h = plain_bytes (meta number level index digests) h
message_bytes (page number index text) h = plain_bytes (page number index text) h

-- a list that spells a frame is a list of bytes
pub spelled_bytes : (bs : List ℕ) (f : FrameData) → SpellsFrame bs f → AreBytes bs
spelled_bytes bs f s = subst AreBytes (sym s.spelled) (frame_bytes IsMessage message_bytes f s.valid)

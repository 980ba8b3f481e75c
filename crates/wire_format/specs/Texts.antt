-- The bytes of Rust's messages and their parts: the spellings of the plain values that they stand for.
use Rattle.std.specs.Prelude.{ℕ, ◌-◌, ◌^◌, List, length, map, min}
use Rattle.wire_format.specs.declared.messages.CheckpointEntry.{CheckpointEntry}
use Rattle.wire_format.specs.declared.messages.BatchEntry.{BatchEntry}
use Rattle.wire_format.specs.declared.messages.ViewChange.{ViewChange}
use Rattle.wire_format.specs.declared.messages.NewView.{NewView}
use Rattle.wire_format.specs.declared.messages.Message.{Message}
use Rattle.wire_format.specs.declared.messages.Body.{Body}
use Rattle.wire_format.specs.declared.frames.Authenticator.{Authenticator}
use Rattle.wire_format.specs.declared.frames.Frame.{Frame}
use Rattle.wire_format.specs.Views.{checkpoint_entry_data, batch_entry_data, view_change_data, new_view_data}
use Rattle.wire_format.specs.Views.{message_data, body_data, authenticator_data, frame_data}
use Rattle.wire_format.specs.Spelling.{checkpoint_entry_spelling, batch_entry_spelling, checkpoint_entries_spelling}
use Rattle.wire_format.specs.Spelling.{batch_entries_spelling, view_change_spelling, new_view_spelling, fields_spelling}
use Rattle.wire_format.specs.Spelling.{body_spelling, authenticator_spelling, frame_spelling}

abbrev pub checkpoint_entry_text : CheckpointEntry → List ℕ
checkpoint_entry_text entry = checkpoint_entry_spelling (checkpoint_entry_data entry)

abbrev pub batch_entry_text : BatchEntry → List ℕ
batch_entry_text entry = batch_entry_spelling (batch_entry_data entry)

-- a count, and each entry
abbrev pub checkpoint_entries_text : List CheckpointEntry → List ℕ
checkpoint_entries_text entries = checkpoint_entries_spelling (map checkpoint_entry_data entries)

abbrev pub batch_entries_text : List BatchEntry → List ℕ
batch_entries_text entries = batch_entries_spelling (map batch_entry_data entries)

abbrev pub view_change_text : ViewChange → List ℕ
view_change_text change = view_change_spelling (view_change_data change)

abbrev pub new_view_text : NewView → List ℕ
new_view_text new_view = new_view_spelling (new_view_data new_view)

-- the fields after the type and the sender
abbrev pub fields_text : Message → List ℕ
fields_text message = fields_spelling (message_data message)

abbrev pub body_text : Body → List ℕ
body_text body = body_spelling (body_data body)

abbrev pub authenticator_text : Authenticator → List ℕ
authenticator_text authenticator = authenticator_spelling (authenticator_data authenticator)

abbrev pub frame_text : Frame → List ℕ
frame_text frame = frame_spelling (frame_data frame)

-- The length, or the greatest number of 64 bits if the length is greater.
abbrev pub capped_length : List ℕ → ℕ
capped_length bytes = min (length bytes) (2 ^ 64 - 1)

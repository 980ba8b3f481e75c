-- The texts of Rust values, for the contracts of private functions.
use Rattle.std.specs.Prelude.{ℕ, List, ◌++◌, codes, Vec}
use Rattle.std.specs.Borrow.{Bor}
use Rattle.std.specs.Fmt.{decimal}
use Rattle.std.specs.declared.alloc.Global.{Global}
use Rattle.terms.specs.Parties.{party_number, client_party}
use Rattle.terms.specs.declared.parties.Party.{Party}
use Rattle.tuple_codec.specs.OperationView.{operation_of, outcome_of}
use Rattle.wire_format.specs.Views.{checkpoint_entry_data, batch_entry_data, batch_text, view_change_data, new_view_data}
use Rattle.wire_format.specs.declared.frames.ReceiverMac.{ReceiverMac}
use Rattle.wire_format.specs.declared.messages.Batch.{Batch}
use Rattle.wire_format.specs.declared.messages.BatchEntry.{BatchEntry}
use Rattle.wire_format.specs.declared.messages.Checkpoint.{Checkpoint}
use Rattle.wire_format.specs.declared.messages.CheckpointEntry.{CheckpointEntry}
use Rattle.wire_format.specs.declared.messages.NewView.{NewView}
use Rattle.wire_format.specs.declared.messages.Page.{Page}
use Rattle.wire_format.specs.declared.messages.PrePrepare.{PrePrepare}
use Rattle.wire_format.specs.declared.messages.Reply.{Reply}
use Rattle.wire_format.specs.declared.messages.Request.{Request}
use Rattle.wire_format.specs.declared.messages.ViewChange.{ViewChange}
use Rattle.trace_text.specs.Lists.{separated_or}
use Rattle.trace_text.specs.Frames as frames

abbrev pub name_text : Party → List ℕ
name_text p = frames.party_text (party_number p)

abbrev pub time_text : Party → ℕ → List ℕ
time_text sender time = name_text sender ++ codes ":" ++ decimal time

-- ---- lists

abbrev pub calls_shown : List (Bor (List ℕ)) → List ℕ
calls_shown requests = separated_or (codes " ") (codes "null") (λ frame. frames.call_text frame.now) requests

abbrev pub receivers_shown : List ReceiverMac → List ℕ
receivers_shown macs = separated_or (codes ",") (codes "all")
    (λ mac. frames.party_text (party_number mac.receiver)) macs

abbrev pub checkpoint_entry_shown : CheckpointEntry → List ℕ
checkpoint_entry_shown entry = frames.shown_checkpoint_entry (checkpoint_entry_data entry)

abbrev pub checkpoints_shown : List CheckpointEntry → List ℕ
checkpoints_shown entries =
    separated_or (codes ",") (codes "-") (λ entry. frames.shown_checkpoint_entry (checkpoint_entry_data entry)) entries

abbrev pub batch_entry_shown : BatchEntry → List ℕ
batch_entry_shown entry = frames.shown_batch_entry (batch_entry_data entry)

abbrev pub batch_entries_shown : List BatchEntry → List ℕ
batch_entries_shown entries =
    separated_or (codes ",") (codes "-") (λ entry. frames.shown_batch_entry (batch_entry_data entry)) entries

abbrev pub senders_shown : List (Vec ℕ Global) → List ℕ
senders_shown changes = separated_or (codes ",") (codes "-") (λ frame. frames.sender_text frame.items) changes

abbrev pub batches_shown : List Batch → List ℕ
batches_shown batches =
    separated_or (codes " ") (codes "-") (λ batch. frames.batch_in_brackets (batch_text batch)) batches

-- ---- messages of a sender

abbrev pub request_shown : Party → Request → List ℕ
request_shown sender m = frames.request_text (name_text sender) m.timestamp.0 m.mode (operation_of m.op)

abbrev pub pre_prepare_shown : Party → PrePrepare → List ℕ
pre_prepare_shown sender m = frames.pre_prepare_text (name_text sender) m.view.0 m.number.0 m.batch.text.items

abbrev pub vote_shown : List ℕ → Party → ℕ → ℕ → List ℕ → List ℕ
vote_shown word sender view number digest = frames.vote_text word (name_text sender) view number digest

abbrev pub checkpoint_shown : Party → Checkpoint → List ℕ
checkpoint_shown sender m = frames.checkpoint_text (name_text sender) m.number.0 m.root

abbrev pub view_change_shown : Party → ViewChange → List ℕ
view_change_shown sender m = frames.shown_view_change (name_text sender) (view_change_data m)

abbrev pub new_view_shown : Party → NewView → List ℕ
new_view_shown sender m = frames.shown_new_view (name_text sender) (new_view_data m)

-- the words before the root of a new view
abbrev pub started_shown : Party → NewView → List ℕ
started_shown sender m =
    frames.new_view_words (name_text sender) m.view.0 ++ senders_shown m.changes.items ++ codes " start "
    ++ decimal m.start.0 ++ codes " root "

abbrev pub replied_shown : Party → Reply → List ℕ
replied_shown sender m =
    frames.replied (name_text sender) (client_party m.client.number) m.timestamp.0 m.kind m.number.0

abbrev pub reply_shown : Party → Reply → List ℕ
reply_shown sender m =
    frames.shown_reply (name_text sender) (client_party m.client.number) m.timestamp.0 m.kind m.number.0
    (outcome_of m.answer)

abbrev pub page_shown : Party → Page → List ℕ
page_shown sender m = frames.page_part_text (name_text sender) m.number.0 m.index m.text.items

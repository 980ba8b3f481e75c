-- The plain messages, bodies, authenticators and frames that the Rust values stand for.
use Rattle.std.specs.Prelude.{ℕ, List, map, Vec}
use Rattle.std.specs.declared.alloc.Global.{Global}
use Rattle.tuple_codec.specs.OperationView.{operation_of, outcome_of}
use Rattle.terms.specs.Parties.{party_number, client_party}
use Rattle.wire_format.specs.declared.messages.CheckpointEntry.{CheckpointEntry}
use Rattle.wire_format.specs.declared.messages.BatchEntry.{BatchEntry}
use Rattle.wire_format.specs.declared.messages.Batch.{Batch}
use Rattle.wire_format.specs.declared.messages.ViewChange.{ViewChange}
use Rattle.wire_format.specs.declared.messages.NewView.{NewView}
use Rattle.wire_format.specs.declared.messages.Message.{Message}
use Rattle.wire_format.specs.declared.messages.Message.TheVariants as messages
use Rattle.wire_format.specs.declared.messages.Body.{Body}
use Rattle.wire_format.specs.declared.frames.ReceiverMac.{ReceiverMac}
use Rattle.wire_format.specs.declared.frames.Authenticator.{Authenticator}
use Rattle.wire_format.specs.declared.frames.Authenticator.TheVariants as authenticators
use Rattle.wire_format.specs.declared.frames.Frame.{Frame}
use Rattle.wire_format.specs.Messages.{CheckpointEntryData, BatchEntryData, ViewChangeData, NewViewData, MessageData}
use Rattle.wire_format.specs.Messages.{request, pre_prepare, prepare, commit, checkpoint, view_change, new_view, reply}
use Rattle.wire_format.specs.Messages.{fetch, meta, page, BodyData, MacData, AuthenticatorData, macs, signature}
use Rattle.wire_format.specs.Messages.{FrameData}

abbrev pub checkpoint_entry_data : CheckpointEntry → CheckpointEntryData
checkpoint_entry_data m = record { number = m.number.0; digest = m.digest }

abbrev pub batch_entry_data : BatchEntry → BatchEntryData
batch_entry_data c = record { number = c.number.0; digest = c.digest; view = c.view.0 }

abbrev pub checkpoint_entries_data : Vec CheckpointEntry Global → List CheckpointEntryData
checkpoint_entries_data entries = map checkpoint_entry_data entries.items

abbrev pub batch_entries_data : Vec BatchEntry Global → List BatchEntryData
batch_entries_data entries = map batch_entry_data entries.items

abbrev pub view_change_data : ViewChange → ViewChangeData
view_change_data c =
    record {
      view = c.view.0;
      low = c.low.0;
      checkpoints = checkpoint_entries_data c.checkpoints;
      prepared = batch_entries_data c.prepared;
      pre_prepared = batch_entries_data c.pre_prepared;
    }

abbrev pub batch_text : Batch → List ℕ
batch_text b = b.text.items

-- the bytes of each of the frames
abbrev pub texts_of : List (Vec ℕ Global) → List (List ℕ)
texts_of frames = map (λ f. f.items) frames

abbrev pub new_view_data : NewView → NewViewData
new_view_data n =
    record {
      view = n.view.0;
      changes = texts_of n.changes.items;
      start = n.start.0;
      root = n.root;
      batches = map batch_text n.batches.items;
    }

abbrev pub message_data : Message → MessageData
message_data (messages.Request m) = request m.timestamp.0 m.mode (operation_of m.op)
message_data (messages.PrePrepare m) = pre_prepare m.view.0 m.number.0 m.batch.text.items
message_data (messages.Prepare m) = prepare m.view.0 m.number.0 m.digest
message_data (messages.Commit m) = commit m.view.0 m.number.0 m.digest
message_data (messages.Checkpoint m) = checkpoint m.number.0 m.root
message_data (messages.ViewChange m) = view_change (view_change_data m)
message_data (messages.NewView m) = new_view (new_view_data m)
message_data (messages.Reply m) =
    reply (client_party m.client.number) m.timestamp.0 m.kind m.number.0 (outcome_of m.answer)
message_data (messages.Fetch m) = fetch m.number.0 m.level m.index
message_data (messages.Meta m) = meta m.number.0 m.level m.index m.digests.items
message_data (messages.Page m) = page m.number.0 m.index m.text.items

abbrev pub body_data : Body → BodyData
body_data b = record { sender = party_number b.sender; message = message_data b.message }

abbrev pub mac_data : ReceiverMac → MacData
mac_data m = record { receiver = party_number m.receiver; mac = m.mac }

abbrev pub macs_of : List ReceiverMac → AuthenticatorData
macs_of entries = macs (map mac_data entries)

abbrev pub authenticator_data : Authenticator → AuthenticatorData
authenticator_data (authenticators.Macs ms) = macs_of ms.items
authenticator_data (authenticators.Signature s) = signature s.items

abbrev pub frame_data : Frame → FrameData
frame_data f =
    record { body = body_data f.body; authenticator = authenticator_data f.authenticator }

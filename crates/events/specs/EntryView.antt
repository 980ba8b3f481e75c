-- The model of the program's entries.
use Rattle.terms.specs.Parties.{party_number}
use Rattle.tuple_codec.specs.OperationView.{operation_of, outcome_of}
use Rattle.protocol.specs.System.Trace.{Entry}
use Rattle.protocol.specs.System.Trace.Entry.{Invoke, Got, Tick, Executed, Installed, Sent, Accepted}
use Rattle.events.specs.declared.entry.EntryKind.{EntryKind}
use Rattle.events.specs.declared.entry.EntryKind.TheVariants as kinds

abbrev pub entry_of_kind : EntryKind → Entry
entry_of_kind (kinds.Invoke client timestamp op) = Invoke client.number timestamp.0 (operation_of op.value)
entry_of_kind (kinds.Got party bytes) = Got (party_number party) bytes
entry_of_kind (kinds.Tick party) = Tick (party_number party)
entry_of_kind (kinds.Executed replica number batch) = Executed replica.0 number.0 batch
entry_of_kind (kinds.Installed replica number root) = Installed replica.0 number.0 root.value
entry_of_kind (kinds.Sent party bytes) = Sent (party_number party) bytes
entry_of_kind (kinds.Accepted client timestamp answer) = Accepted client.number timestamp.0 (outcome_of answer.value)

-- The outputs of a step as entries, how an event extends a history, and to whom its frames go.
use Rattle.std.specs.Prelude.{◌≡◌, ℕ, List, [], ◌∷◌, map, ⊤}
use Rattle.std.specs.Option.{option_map_or}
use Rattle.terms.specs.Parties.{party_number, client_number}
use Rattle.wire_format.specs.Lists.{Each}
use Rattle.wire_format.specs.Words.{frame_of}
use Rattle.events.specs.declared.output.Output.{Output}
use Rattle.events.specs.declared.output.Output.TheVariants as outputs
use Rattle.tuple_codec.specs.OperationView.{outcome_of}
use Rattle.protocol.specs.System.Configuration.{Configuration}
use Rattle.protocol.specs.System.Schedule.{meant_for}
use Rattle.protocol.specs.System.Trace.{Entry}
use Rattle.protocol.specs.System.Trace.Entry.{Executed, Installed, Sent, Accepted}

-- an output of the party
abbrev pub entry_of : ℕ → Output → Entry
entry_of me (outputs.Executed number batch) = Executed me number.0 batch
entry_of me (outputs.Installed number root) = Installed me number.0 root
entry_of me (outputs.Send receivers frame) = Sent me frame
entry_of me (outputs.Accepted timestamp answer) = Accepted (client_number me) timestamp.0 (outcome_of answer)

-- the history after a list of entries, the oldest first
abbrev pub after_entries : List Entry → List Entry → List Entry
after_entries [] history = history
after_entries (e ∷ entries) history = after_entries entries (e ∷ history)

-- the history after an event: its input, and its outputs, the oldest first
abbrev pub after_event : ℕ → Entry → List Output → List Entry → List Entry
after_event me input outs history = after_entries (map (entry_of me) outs) (input ∷ history)

-- ---- to whom frames go

-- The parties for whom a frame of these bytes is. Bytes that are no frame are for nobody.
abbrev pub receivers_in : Configuration → ℕ → List ℕ → List ℕ
receivers_in c sender bytes = option_map_or (λ frame. meant_for c sender frame.authenticator) (frame_of bytes) []

-- If the party sends a frame, the frame goes exactly to the parties for whom it is.
abbrev pub IsSentAsMeant : Configuration → ℕ → Output → Type 0
IsSentAsMeant c me (outputs.Send receivers frame) =
    map party_number receivers.items ≡ receivers_in c me frame
IsSentAsMeant c me _ = ⊤

-- So does each frame that the party sends.
abbrev pub AreSentAsMeant : Configuration → ℕ → List Output → Type 0
AreSentAsMeant c me outs = Each (IsSentAsMeant c me) outs

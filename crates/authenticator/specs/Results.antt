-- The results of the functions that seal and open frames.
use Rattle.std.specs.Prelude.{◌≡◌, ◌↔◌, ℕ, List, map, Option, Result, Err, Vec}
use Rattle.std.specs.declared.alloc.Global.{Global}
use Rattle.terms.specs.Parties.{party_number}
use Rattle.terms.specs.declared.parties.Party.{Party}
use Rattle.tuple_codec.specs.Results.{ReturnsEach}
use Rattle.wire.specs.Headers.{header_data}
use Rattle.wire_format.specs.Messages.{FrameData}
use Rattle.wire_format.specs.Spelling.{SpellsFrame}
use Rattle.wire_format.specs.Views.{body_data, frame_data, mac_data}
use Rattle.wire_format.specs.declared.frames.ReceiverMac.{ReceiverMac}
use Rattle.wire.specs.declared.headers.Header.{Header}
use Rattle.wire_format.specs.declared.messages.Body.{Body}
use Rattle.authenticator.specs.declared.sealed.Opened.{Opened}
use Rattle.authenticator.specs.declared.sealed.OpenFault.{OpenFault}
use Rattle.authenticator.specs.declared.sealed.OpenFault.TheVariants as open_faults
use Rattle.authenticator.specs.declared.sealed.SealFault.{SealFault}
use Rattle.authenticator.specs.declared.sealed.SealFault.TheVariants as seal_faults
use Rattle.authenticator.specs.Headers.{header_refusal}
use Rattle.authenticator.specs.Membership.{Membership}
use Rattle.authenticator.specs.Opening.{Opens}
use Rattle.authenticator.specs.Sealing.{IsTooLong, entry_for, sealed_for}
use Rattle.authenticator.specs.Keys.{Keys}

-- The entries are the MACs of a text for the receivers.
abbrev pub AreMacsFor : Keys → ℕ → List ℕ → List Party → List ReceiverMac → Type 0
AreMacsFor keys sender text receivers entries =
    map mac_data entries ≡ map (entry_for keys sender text) (map party_number receivers)

-- the body with its MACs for the receivers
abbrev pub sealed_frame : Keys → Body → List Party → FrameData
sealed_frame keys body receivers = sealed_for keys (body_data body) (map party_number receivers)

-- The bytes spell that frame.
abbrev pub SealsBody : Keys → Body → List Party → Vec ℕ Global → Type 0
SealsBody keys body receivers bytes = SpellsFrame bytes.items (sealed_frame keys body receivers)

-- The body is refused as too large exactly if its frame would be longer than it may be.
abbrev pub TellsTooLong : Keys → Body → List Party → Result (Vec ℕ Global) SealFault → Type 0
TellsTooLong keys body receivers result =
    (result ≡ Err seal_faults.TooLarge) ↔ IsTooLong (sealed_frame keys body receivers)

-- The opened frame is one that the party may open.
abbrev pub IsOpened : Membership → Party → List ℕ → Opened → Type 0
IsOpened m party bytes opened = Opens m (party_number party) bytes (frame_data opened.frame)

-- If the party may open a frame, it is opened, unless memory runs out.
abbrev pub OpensEach : Membership → Party → List ℕ → Result Opened OpenFault → Type 0
OpensEach m party bytes result =
    ReturnsEach open_faults.NoMemory (λ o. frame_data o.frame)
    (Opens m (party_number party) bytes) result

-- why the party refuses a frame of this header, if it does
abbrev pub refusal_of_header : Membership → Party → Header → Option OpenFault
refusal_of_header m party header = header_refusal m (party_number party) (header_data header)

-- The line of a frame shows the content of its bytes.
use Rattle.std.proofs.Common.{◌≡◌, ℕ, List, ◌++◌, length, map, Option, Some, None, refl, sym, ap, ◌∙◌}
use Rattle.std.specs.Prelude.{codes}
use Rattle.std.specs.Fmt.{decimal}
use Rattle.terms.specs.Parties.{party_number}
use Rattle.wire_format.specs.Messages.{FrameData, signature}
use Rattle.wire_format.specs.Spelling.{SpellsFrame}
use Rattle.wire_format.specs.Views.{mac_data, macs_of}
use Rattle.wire_format.specs.Words.{frame_of, receivers_of}
use Rattle.wire_format.specs.declared.frames.ReceiverMac.{ReceiverMac}
use Rattle.wire_format.proofs.Saying.{reads_frames}
use Rattle.trace_text.specs.Lists.{separated_or}
use Rattle.trace_text.specs.Frames.{party_text, call_by, shown_call, call_text, shown_sender, sender_text, shown_body, shown_frame_of, shown_frame, shown_receivers, receivers_text}
use Rattle.trace_text.proofs.Joined.{listed_view}

frame_is : (bytes : List ℕ) (f : FrameData) → SpellsFrame bytes f → frame_of bytes ≡ Some f
frame_is bytes f h = (reads_frames bytes f).1 h

-- the bytes spell no frame
abbrev SpellsNone : List ℕ → Type 0
SpellsNone bytes = (f : FrameData) → SpellsFrame bytes f → ⊥

no_frame : (bytes : List ℕ) → SpellsNone bytes → frame_of bytes ≡ None
no_frame bytes none = by (frame_of bytes) refl
  where
    by : (o : Option FrameData) → frame_of bytes ≡ o → o ≡ None
    by None e = refl
    by (Some f) e = absurd (none f ((reads_frames bytes f).0 e))

pub call_said : (bytes : List ℕ) (f : FrameData) → SpellsFrame bytes f → call_by f.body.sender f.body.message ≡ call_text bytes
call_said bytes f h = sym (ap shown_call (frame_is bytes f h))

pub sender_said : (bytes : List ℕ) (f : FrameData) (sender : ℕ) → SpellsFrame bytes f → sender ≡ f.body.sender → party_text sender ≡ sender_text bytes
sender_said bytes f sender h e = ap party_text e ∙ sym (ap shown_sender (frame_is bytes f h))

pub none_said : (bytes : List ℕ) → SpellsNone bytes → sender_text bytes ≡ shown_sender None
none_said bytes none = ap shown_sender (no_frame bytes none)

pub frame_said : (bytes : List ℕ) (f : FrameData) → SpellsFrame bytes f → shown_body f.body ≡ shown_frame bytes
frame_said bytes f h = sym (ap (shown_frame_of (length bytes)) (frame_is bytes f h))

pub len_said : (bytes : List ℕ) → SpellsNone bytes → decimal (length bytes) ++ codes " bytes that are no frame" ≡ shown_frame bytes
len_said bytes none = sym (ap (shown_frame_of (length bytes)) (no_frame bytes none))

pub receivers_said : (bytes : List ℕ) (f : FrameData) (entries : List ReceiverMac) → SpellsFrame bytes f → macs_of entries ≡ f.authenticator → separated_or (codes ",") (codes "all") (λ mac. party_text (party_number mac.receiver)) entries ≡ receivers_text bytes
receivers_said bytes f entries h e =
    sym (listed_view (codes ",") (λ mac. party_text mac.receiver) (codes "all") mac_data entries)
    ∙ sym (listed_view (codes ",") party_text (codes "all") (λ mac. mac.receiver) (map mac_data entries))
    ∙ ap (λ a. separated_or (codes ",") (codes "all") party_text (receivers_of a)) e
    ∙ sym (ap shown_receivers (frame_is bytes f h))

pub all_said : (bytes : List ℕ) (f : FrameData) (s : List ℕ) → SpellsFrame bytes f → signature s ≡ f.authenticator → codes "all" ≡ receivers_text bytes
all_said bytes f s h e =
    ap (λ a. separated_or (codes ",") (codes "all") party_text (receivers_of a)) e ∙ sym (ap shown_receivers (frame_is bytes f h))

pub nobody_said : (bytes : List ℕ) → SpellsNone bytes → codes "all" ≡ receivers_text bytes
nobody_said bytes none = sym (ap shown_receivers (no_frame bytes none))

-- The view change that a carried frame spells, if its sender signed it.
use Rattle.std.specs.Prelude.{option_and_then, if◌then◌else◌}
use Rattle.std.proofs.Common.{◌≡◌, ℕ, ◌<◌, Bool, true, false, List, Option, Some, None, refl, sym, ap, ◌∙◌, arith, ◌&&◌}
use Rattle.std.proofs.lemmas.Bool.{ltb-true}
use Rattle.std.proofs.lemmas.Option.{some_pair_parts}
use Rattle.wire_format.specs.Messages.{MessageData as Message, BodyData as Body, FrameData as Frame, ViewChangeData, view_change as ViewChange, new_view as NewView}
use Rattle.wire_format.specs.Spelling.{SpellsFrame, is_signed}
use Rattle.wire_format.specs.Words.{frame_of}
use Rattle.wire_format.proofs.Saying.{reads_frames}
use Rattle.authenticator.specs.Membership.{is_replica, has_sender, sends}
use Rattle.signing.specs.AuthenticBody.{has_signature, is_signed_frame, signed_body}
use Rattle.protocol.specs.System.Configuration.{Configuration, replicas, signers}
use Rattle.protocol.specs.Replica.Selection.{change_in, signed_change}

-- the view change in a frame, if there is one
abbrev pub tells : Configuration → Frame → Option (ℕ × ViewChangeData)
tells c frame = option_and_then change_in (if is_signed_frame (signers c) frame then Some frame.body else None)

told : (c : Configuration) (bytes : List ℕ) (o : Option Frame) → frame_of bytes ≡ o → signed_change c bytes ≡ option_and_then (tells c) o
unfolding signed_body
told c bytes o is = ap (λ (p : Option Frame). option_and_then change_in (option_and_then (λ frame. if is_signed_frame (signers c) frame then Some frame.body else None) p)) is ∙ by_cases o
  where
    by_cases : (o : Option Frame) → option_and_then change_in (option_and_then (λ frame. if is_signed_frame (signers c) frame then Some frame.body else None) o) ≡ option_and_then (tells c) o
    by_cases None = refl
    by_cases (Some frame) = refl

pub not_spelled : (c : Configuration) (bytes : List ℕ) → ((f : Frame) → SpellsFrame bytes f → ⊥) → signed_change c bytes ≡ None
not_spelled c bytes none = go (frame_of bytes) refl
  where
    go : (o : Option Frame) → frame_of bytes ≡ o → signed_change c bytes ≡ None
    go None is = told c bytes None is
    go (Some f) is = absurd (none f ((reads_frames bytes f).0 is))

pub spelled_tells : (c : Configuration) (bytes : List ℕ) (f : Frame) → SpellsFrame bytes f → signed_change c bytes ≡ tells c f
spelled_tells c bytes f s = told c bytes (Some f) ((reads_frames bytes f).1 s)

-- ---- by the frame

no_sender_of : (c : Configuration) (sender : ℕ) (message : Message) (b : Bool) → is_replica (signers c) sender ≡ false
    → option_and_then change_in (if is_signed message && (sends (signers c) sender message && b) then Some (let body : Body = record { sender = sender; message = message } in body) else None) ≡ None
no_sender_of c sender (ViewChange vc) b h = rw h refl
no_sender_of c sender (NewView new) b h = rw h refl
no_sender_of c sender _ b h = refl

pub no_sender : (c : Configuration) (f : Frame) → is_replica (signers c) f.body.sender ≡ false → tells c f ≡ None
no_sender c f h = no_sender_of c f.body.sender f.body.message (has_signature c.publics f) h

no_signature_of : (c : Configuration) (body : Body) (signed sent : Bool) → option_and_then change_in (if signed && (sent && false) then Some body else None) ≡ None
no_signature_of c body true true = refl
no_signature_of c body true false = refl
no_signature_of c body false sent = refl

pub no_signature : (c : Configuration) (f : Frame) → has_signature c.publics f ≡ false → tells c f ≡ None
no_signature c f h = rw h (no_signature_of c f.body (is_signed f.body.message) (has_sender (signers c) f.body))

no_change_of : (c : Configuration) (body : Body) (b : Bool) → change_in body ≡ None → option_and_then change_in (if b then Some body else None) ≡ None
no_change_of c body true h = h
no_change_of c body false h = refl

pub no_change : (c : Configuration) (f : Frame) → change_in f.body ≡ None → tells c f ≡ None
no_change c f h = no_change_of c f.body (is_signed f.body.message && (has_sender (signers c) f.body && has_signature c.publics f)) h

pub is_change : (c : Configuration) (f : Frame) (vc : ViewChangeData) → is_replica (signers c) f.body.sender ≡ true → has_signature c.publics f ≡ true → f.body.message ≡ ViewChange vc
    → tells c f ≡ Some (f.body.sender, vc)
is_change c f vc sent signed is = rw signed (go f.body.message is)
  where
    go : (m : Message) → m ≡ ViewChange vc
        → option_and_then change_in (if is_signed m && (sends (signers c) f.body.sender m && true) then Some (let body : Body = record { sender = f.body.sender; message = m } in body) else None) ≡ Some (f.body.sender, vc)
    go m e = rw e (rw sent refl)

-- ---- signed view changes

-- the frame of a view change of a replica
pub record IsChangeFrame (c : Configuration) (bytes : List ℕ) (x : ℕ × ViewChangeData) : Type 0 where
  pub frame : Frame
  pub spelled : SpellsFrame bytes frame
  pub sender : frame.body.sender ≡ x.0
  pub message : frame.body.message ≡ ViewChange x.1
  pub known : x.0 < replicas c

change_is : (body : Body) (x : ℕ × ViewChangeData) → change_in body ≡ Some x → (body.sender ≡ x.0) × (body.message ≡ ViewChange x.1)
change_is body x = go body.message
  where
    go : (m : Message) → change_in (let b : Body = record { sender = body.sender; message = m } in b) ≡ Some x → (body.sender ≡ x.0) × (m ≡ ViewChange x.1)
    go (ViewChange vc) h = let p = some_pair_parts body.sender x.0 vc x.1 h in (p.0, ap ViewChange p.1)
    go _ h = absurd cc

tells_change : (c : Configuration) (f : Frame) (x : ℕ × ViewChangeData) → tells c f ≡ Some x → (f.body.sender ≡ x.0) × (f.body.message ≡ ViewChange x.1)
tells_change c f x = go (is_signed_frame (signers c) f)
  where
    go : (b : Bool) → option_and_then change_in (if b then Some f.body else None) ≡ Some x → (f.body.sender ≡ x.0) × (f.body.message ≡ ViewChange x.1)
    go true h = change_is f.body x h
    go false h = absurd cc

tells_known : (c : Configuration) (f : Frame) (x : ℕ × ViewChangeData) → tells c f ≡ Some x → x.0 < replicas c
tells_known c f x h = go (is_replica (signers c) f.body.sender) refl
  where
    go : (b : Bool) → is_replica (signers c) f.body.sender ≡ b → x.0 < replicas c
    go true e = let l = ltb-true f.body.sender (replicas c) e in let s = (tells_change c f x h).0 in omega arith
    go false e = absurd (let n = no_sender c f e in cc)

pub signed_is : (c : Configuration) (bytes : List ℕ) (x : ℕ × ViewChangeData) → signed_change c bytes ≡ Some x → IsChangeFrame c bytes x
signed_is c bytes x h = go (frame_of bytes) refl
  where
    go : (o : Option Frame) → frame_of bytes ≡ o → IsChangeFrame c bytes x
    go None e = absurd (let n = told c bytes None e in cc)
    go (Some f) e =
        let t : tells c f ≡ Some x = sym (told c bytes (Some f) e) ∙ h in
        let p = tells_change c f x t in
        record { frame = f; spelled = (reads_frames bytes f).0 e; sender = p.0; message = p.1; known = tells_known c f x t }

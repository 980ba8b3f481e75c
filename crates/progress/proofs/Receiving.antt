-- A party receives a frame that is sealed for it, and a frame with MACs is for those who have one.
use Rattle.std.proofs.Common.{◌≡◌, ◌≢◌, ℕ, inl, inr, true, false, List, [], ◌∷◌, map, All, Option, Some, refl, sym, ap, ◌∙◌, subst, bytes_eq}
use Rattle.std.specs.Prelude.{◌==◌}
use Rattle.std.specs.List.{list_any}
use Rattle.std.specs.Option.{option_map_or}
use Rattle.std.proofs.lemmas.Bool.{and_from, eq-eqb, or_left, or_right}
use Rattle.std.proofs.lemmas.Slice.Eq.{bytes_eq-Decides}
use Rattle.std.proofs.lemmas.List.Elements.{All-head, All-tail}
use Rattle.std.proofs.Math.Bool.{or-true}
use Rattle.wire_format.specs.Messages.{BodyData as Body, MessageData as Message, FrameData as Frame, MacData, AuthenticatorData as Authenticator, macs, signature}
use Rattle.wire_format.specs.Spelling.{SpellsFrame, body_spelling, is_signed, authenticator_is_signed}
use Rattle.wire_format.specs.Words.{frame_of, said, receivers_of}
use Rattle.wire_format.proofs.Saying.{reads_frames, says_what_is_spelled}
use Rattle.authenticator.specs.Keys.{Keys}
use Rattle.authenticator.specs.Authentic.{mac_of, is_mac_for, is_authentic, proves_some}
use Rattle.authenticator.specs.Membership.{sends}
use Rattle.signing.specs.AuthenticBody.{authentic}
use Rattle.signing.proofs.AuthenticBody.{opened_is_authentic}
use Rattle.protocol.specs.System.Configuration.{Configuration, members, signers}
use Rattle.protocol.specs.System.Frames.{IsSealed}
use Rattle.protocol.specs.System.Trace.{Has}
use Rattle.protocol.specs.System.Schedule.{meant_for}
use Rattle.evidence.proofs.Knowing.{DoExchange, code_is_found, exchange_apart}
use Rattle.progress.specs.Delivery.{meant}

-- ---- the entry of a receiver

entry_right : (keys : Keys) (q : ℕ) (body : Body) (entries : List MacData) → All (λ x. x.mac ≡ mac_of keys x.receiver body) entries
    → Has (λ r. r ≡ q) (map (λ (x : MacData). x.receiver) entries) → list_any (is_mac_for q (mac_of keys q body)) entries ≡ true
entry_right keys q body [] all h = absurd h
entry_right keys q body (x ∷ entries) all (inl is) =
    let mine : x.mac ≡ mac_of keys x.receiver body = All-head (λ (x : MacData). x.mac ≡ mac_of keys x.receiver body) x entries all in
    let own : x.mac ≡ mac_of keys q body = mine ∙ ap (λ (r : ℕ). mac_of keys r body) is in
    or_left (is_mac_for q (mac_of keys q body) x) (list_any (is_mac_for q (mac_of keys q body)) entries)
    (and_from (x.receiver == q) (bytes_eq x.mac (mac_of keys q body)) (eq-eqb x.receiver q is) ((bytes_eq-Decides x.mac (mac_of keys q body)).1 own))
entry_right keys q body (x ∷ entries) all (inr h) =
    or_right (is_mac_for q (mac_of keys q body) x) (list_any (is_mac_for q (mac_of keys q body)) entries)
    (entry_right keys q body entries (All-tail (λ (x : MacData). x.mac ≡ mac_of keys x.receiver body) x entries all) h)

sealed_is_from_sender : (c : Configuration) (q : ℕ) (body : Body) (a : Authenticator) → IsSealed c (record { body = body; authenticator = a }) → DoExchange c body.sender q → Has (λ r. r ≡ q) (receivers_of a)
    → is_authentic (members c q).keys q (record { body = body; authenticator = a }) ≡ true
sealed_is_from_sender c q body (macs entries) sealed both h =
    ap (λ (code : Option (List ℕ)). proves_some q code (macs entries)) (code_is_found c body.sender q (body_spelling body) both)
    ∙ entry_right (members c body.sender).keys q body entries sealed h
sealed_is_from_sender c q body (signature s) sealed both h = absurd h

-- ---- a frame that is no view change and no new view

-- the frame that the bytes spell, if they say this
pub record Spelled (bytes : List ℕ) (body : Body) : Type 0 where
  pub frame : Frame
  pub is : frame_of bytes ≡ Some frame
  pub spells : SpellsFrame bytes frame
  pub body_is : frame.body ≡ body

pub spelled_as : (bytes : List ℕ) (body : Body) → said bytes ≡ Some body → Spelled bytes body
spelled_as bytes body says =
    let f = (says_what_is_spelled bytes body).0 says in
    record { frame = f.0; is = (reads_frames bytes f.0).1 f.1; spells = f.1; body_is = f.2 }

for_receivers : (c : Configuration) (p : ℕ) (a : Authenticator) → authenticator_is_signed a ≡ false → meant_for c p a ≡ receivers_of a
for_receivers c p (macs entries) h = refl
for_receivers c p (signature s) h = absurd cc

pub record Heard (c : Configuration) (p q : ℕ) (message : Message) (bytes : List ℕ) : Type 0 where
  pub receives : authentic (members c q) q bytes ≡ Some (record { sender = p; message = message })
  pub meant_is : Has (λ r. r ≡ q) (meant c p bytes)

-- a frame that is sealed for a party is for it, and it receives the frame
pub sealed_is_authentic : (c : Configuration) (p q : ℕ) (message : Message) (bytes : List ℕ) → said bytes ≡ Some (record { sender = p; message = message })
    → ((frame : Frame) → frame_of bytes ≡ Some frame → authenticator_is_signed frame.authenticator ≡ false → IsSealed c frame × Has (λ r. r ≡ q) (receivers_of frame.authenticator))
    → is_signed message ≡ false → sends (signers c) p message ≡ true → DoExchange c p q → Heard c p q message bytes
sealed_is_authentic c p q message bytes says well unsigned known both = record {
  receives = opened_is_authentic (members c q) q bytes f.frame (record { spelled = f.spells; sender = subst (λ (b : Body). sends (signers c) b.sender b.message ≡ true) (sym f.body_is) known; proved = rw right (or-true _) })
      (subst (λ (b : Body). b.sender ≢ q) (sym f.body_is) (exchange_apart c p q both))
      (λ signed. let bad : false ≡ true = sym unsigned ∙ sym (ap (λ (b : Body). is_signed b.message) f.body_is) ∙ signed in absurd cc)
      ∙ ap Some f.body_is;
  meant_is = subst (λ (o : Option Frame). Has (λ r. r ≡ q) (option_map_or (λ frame. meant_for c p frame.authenticator) o [])) (sym f.is)
      (subst (λ (rs : List ℕ). Has (λ r. r ≡ q) rs) (sym (for_receivers c p f.frame.authenticator plain)) sealed.1);
}
  where
    f : Spelled bytes (record { sender = p; message = message })
    f = spelled_as bytes (record { sender = p; message = message }) says

    plain : authenticator_is_signed f.frame.authenticator ≡ false
    plain = f.spells.valid.proved ∙ ap (λ (b : Body). is_signed b.message) f.body_is ∙ unsigned

    sealed : IsSealed c f.frame × Has (λ r. r ≡ q) (receivers_of f.frame.authenticator)
    sealed = well f.frame f.is plain

    right : is_authentic (members c q).keys q f.frame ≡ true
    right =
        sealed_is_from_sender c q f.frame.body f.frame.authenticator sealed.0 (subst (λ (b : Body). DoExchange c b.sender q) (sym f.body_is) both) sealed.1

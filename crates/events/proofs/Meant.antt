-- The receivers of the frames that a party sends.
use Rattle.std.proofs.Common.{◌≡◌, ◌≢◌, ℕ, zero, suc, ◌+◌, ◌-◌, ◌<◌, ◌≤◌, Bool, not, cond, List, [], ◌∷◌, ◌++◌, filter, length, Some, refl, sym, ap, ◌∙◌, arith}
use Rattle.std.specs.Prelude.{◌==◌}
use Rattle.std.specs.List.{range_with_len}
use Rattle.std.specs.Option.{option_map_or}
use Rattle.std.proofs.lemmas.Bool.{eq-eqb, ne_eqb}
use Rattle.wire_format.specs.Messages.{MessageData as Message, FrameData as Frame, AuthenticatorData as Authenticator, macs, signature}
use Rattle.wire_format.specs.Spelling.{IsAuthenticator, SpellsFrame}
use Rattle.wire_format.specs.Words.{frame_of, receivers_of}
use Rattle.wire_format.proofs.Saying.{reads_frames, says_what_is_spelled}
use Rattle.protocol.specs.System.Configuration.{Configuration, replicas}
use Rattle.protocol.specs.System.Frames.{IsOutgoing}
use Rattle.protocol.specs.System.Schedule.{meant_for}
use Rattle.protocol.specs.Replica.RightReplica.{others}
use Rattle.protocol.proofs.Words.Elements.{each_append}
use Rattle.events.specs.declared.output.Output.{Output}
use Rattle.events.specs.Outputs.{receivers_in, IsSentAsMeant, AreSentAsMeant}

-- ---- by the authenticator

in_frame : (c : Configuration) (me : ℕ) (bytes : List ℕ) (frame : Frame) → frame_of bytes ≡ Some frame → receivers_in c me bytes ≡ meant_for c me frame.authenticator
in_frame c me bytes frame is = ap (λ o. option_map_or (λ (f : Frame). meant_for c me f.authenticator) o []) is

named : (c : Configuration) (me : ℕ) (parties : List ℕ) (a : Authenticator) → 1 ≤ length parties → receivers_of a ≡ parties → meant_for c me a ≡ parties
named c me parties (macs entries) some e = e
named c me [] (signature s) some e = absurd (omega (arith, some))
named c me (x ∷ xs) (signature s) some e = absurd cc

unnamed : (c : Configuration) (me : ℕ) (a : Authenticator) → IsAuthenticator a → receivers_of a ≡ [] → meant_for c me a ≡ range_with_len 0 me ++ range_with_len (suc me) (replicas c - suc me)
unnamed c me (macs []) valid e = absurd (omega (arith, valid.0))
unnamed c me (macs (m ∷ ms)) valid e = absurd cc
unnamed c me (signature s) valid e = refl

-- ---- all replicas but one

abbrev is_other : ℕ → ℕ → Bool
is_other me r = not (r == me)

kept : (me x : ℕ) (xs : List ℕ) → x ≢ me → filter (is_other me) (x ∷ xs) ≡ x ∷ filter (is_other me) xs
kept me x xs h = ap (λ b. cond (not b) (x ∷ filter (is_other me) xs) (filter (is_other me) xs)) (ne_eqb x me h)

left_out : (me x : ℕ) (xs : List ℕ) → x ≡ me → filter (is_other me) (x ∷ xs) ≡ filter (is_other me) xs
left_out me x xs h = ap (λ b. cond (not b) (x ∷ filter (is_other me) xs) (filter (is_other me) xs)) (eq-eqb x me h)

above : (me start n : ℕ) → me < start → filter (is_other me) (range_with_len start n) ≡ range_with_len start n
above me start zero l = refl
above me start (suc n) l =
    kept me start (range_with_len (start + 1) n) (λ e. omega (arith, e, l)) ∙ ap (λ xs. start ∷ xs) (above me (start + 1) n (omega arith))

without : (me start k n total : ℕ) → me ≡ start + k → total ≡ k + suc n → filter (is_other me) (range_with_len start total) ≡ range_with_len start k ++ range_with_len (suc me) n
without me start k n zero e t = absurd (omega (arith, t))
without me start zero n (suc total) e t =
    let next : start + 1 ≡ suc me = omega arith in
    let same : total ≡ n = omega arith in
    left_out me start (range_with_len (start + 1) total) (omega arith) ∙ above me (start + 1) total (omega arith) ∙ ap (λ first. range_with_len first total) next
    ∙ ap (λ more. range_with_len (suc me) more) same
without me start (suc k) n (suc total) e t =
    kept me start (range_with_len (start + 1) total) (λ f. omega (arith, e, f)) ∙ ap (λ xs. start ∷ xs) (without me (start + 1) k n total (omega arith) (omega arith))

others_are : (c : Configuration) (me : ℕ) → me < replicas c → others c me ≡ range_with_len 0 me ++ range_with_len (suc me) (replicas c - suc me)
others_are c me l = without me 0 me (replicas c - suc me) (replicas c) (omega arith) (omega arith)

-- ---- outgoing frames

-- the frame that the bytes of an outgoing frame spell
outgoing_frame : (c : Configuration) (me : ℕ) (message : Message) (parties bytes : List ℕ) → IsOutgoing c me message parties bytes
    → (frame : Frame) × SpellsFrame bytes frame × (receivers_in c me bytes ≡ meant_for c me frame.authenticator) × (receivers_of frame.authenticator ≡ parties)
outgoing_frame c me message parties bytes is_outgoing =
    let (frame, spells, same) = (says_what_is_spelled bytes (record { sender = me; message = message })).0 is_outgoing.says in
    let is = (reads_frames bytes frame).1 spells in
    (frame, spells, in_frame c me bytes frame is, (is_outgoing.is_sealed frame is).1)

-- A frame with MACs for some parties is for these.
pub sealed_is_for : (c : Configuration) (me : ℕ) (message : Message) (parties bytes : List ℕ) → 1 ≤ length parties → IsOutgoing c me message parties bytes → receivers_in c me bytes ≡ parties
sealed_is_for c me message parties bytes some is_outgoing =
    let (frame, spells, is, so) = outgoing_frame c me message parties bytes is_outgoing in
    is ∙ named c me parties frame.authenticator some so

-- A signed frame is for all other replicas.
pub signed_is_for : (c : Configuration) (me : ℕ) (message : Message) (bytes : List ℕ) → me < replicas c → IsOutgoing c me message [] bytes → receivers_in c me bytes ≡ others c me
signed_is_for c me message bytes l is_outgoing =
    let (frame, spells, is, none) = outgoing_frame c me message [] bytes is_outgoing in
    is ∙ unnamed c me frame.authenticator spells.valid.authenticator none ∙ sym (others_are c me l)

-- ---- outputs

pub one_more_meant : (c : Configuration) (me : ℕ) (before after : List Output) (output : Output) → after ≡ before ++ output ∷ [] → IsSentAsMeant c me output → AreSentAsMeant c me before → AreSentAsMeant c me after
one_more_meant c me before after output is one all = rw is (each_append (IsSentAsMeant c me) before (output ∷ []) all (one, tt))

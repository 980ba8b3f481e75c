-- Signed frames are authentic to their receivers.
use Rattle.std.proofs.Common.{◌≡◌, ◌≢◌, ℕ, zero, suc, ◌+◌, ◌-◌, ◌<◌, Bool, true, not, cond, List, ◌∷◌, ◌++◌, filter, Some, refl, sym, ap, ◌∙◌, arith}
use Rattle.std.specs.Prelude.{◌==◌}
use Rattle.std.specs.List.{range_with_len}
use Rattle.std.proofs.lemmas.Bool.{ltb-true, eq-eqb, ne_eqb}
use Rattle.sha2.specs.Sha256.{sha256}
use Rattle.tuple_tree.specs.Values.{AreBytes}
use Rattle.tuple_tree.proofs.Readers.{bytes_append}
use Rattle.wire_format.specs.Messages.{BodyData as Body, MessageData as Message, FrameData as Frame, signature, request as Request}
use Rattle.wire_format.specs.Spelling.{is_signed, body_spelling, SpellsFrame}
use Rattle.authenticator.specs.Keys.{signing_seed}
use Rattle.authenticator.specs.Membership.{sends}
use Rattle.authenticator.proofs.Digests.{hmac_of-digest}
use Rattle.signing.specs.Joined.{end_to_end}
use Rattle.signing.specs.Lamport.{secret, public_hash, leaf_digest, bit_of}
use Rattle.signing.specs.Merkle.{node}
use Rattle.signing.specs.Publics.{public_of}
use Rattle.signing.specs.Signatures.{public_key, signed_bit, sibling_digest, signature_of, verifies as verifies_text}
use Rattle.signing.proofs.Signed.{signature_of-verifies}
use Rattle.signing.proofs.AuthenticBody.{verifies-Decides, signer_is_authentic}
use Rattle.signing.specs.AuthenticBody.{signed_body}
use Rattle.protocol.specs.System.Configuration.{Configuration, replicas, is_replica, signers}
use Rattle.protocol.specs.System.Schedule.{signed_bytes}
use Rattle.evidence.specs.RefusedSteps.{SignedFramesAreAuthentic}
use Rattle.tuple_tree.proofs.NumberBytes.{no_bytes, bytes_more}
use Rattle.wire_format.proofs.Saying.{reads_frames, reads_said}
use Rattle.evidence.proofs.FirstFrames.{is_digest}
use Rattle.evidence.proofs.Knowing.{own_public, signed_is_heard}

-- ---- a signature is of bytes

joined_bytes : (n : ℕ) (f : ℕ → List ℕ) → ((k : ℕ) → AreBytes (f k)) → AreBytes (end_to_end n f)
unfolding end_to_end
joined_bytes zero f each = no_bytes
joined_bytes (suc n) f each = bytes_append (end_to_end n f) (f n) (joined_bytes n f each) (each n)

secret_bytes : (seed : List ℕ) (leaf bit value : ℕ) → AreBytes (secret seed leaf bit value)
unfolding secret
secret_bytes seed leaf bit value = (hmac_of-digest _ _).bytes

public_bytes : (seed : List ℕ) (leaf bit value : ℕ) → AreBytes (public_hash seed leaf bit value)
unfolding public_hash
public_bytes seed leaf bit value = (is_digest _).bytes

leaf_bytes : (seed : List ℕ) (leaf : ℕ) → AreBytes (leaf_digest seed leaf)
unfolding leaf_digest
leaf_bytes seed leaf = (is_digest _).bytes

node_bytes : (leaves : ℕ → List ℕ) → ((leaf : ℕ) → AreBytes (leaves leaf)) → (level place : ℕ) → AreBytes (node leaves level place)
unfolding node
node_bytes leaves each zero place = each place
node_bytes leaves each (suc level) place = (is_digest _).bytes

signature_bytes : (seed : List ℕ) (leaf : ℕ) (text : List ℕ) → leaf < 64 → AreBytes (signature_of seed leaf text)
unfolding signature_of
signature_bytes seed leaf text l =
    bytes_more leaf _ (omega arith)
    (bytes_append (end_to_end 256 (signed_bit seed leaf (sha256 text))) (end_to_end 6 (sibling_digest (leaf_digest seed) leaf))
    (joined_bytes 256 (signed_bit seed leaf (sha256 text)) (λ bit. bytes_append (secret seed leaf bit (bit_of (sha256 text) bit)) (public_hash seed leaf bit (1 - bit_of (sha256 text) bit)) (secret_bytes seed leaf bit _) (public_bytes seed leaf bit _)))
    (joined_bytes 6 (sibling_digest (leaf_digest seed) leaf) (λ level. node_bytes (leaf_digest seed) (leaf_bytes seed) level _)))

-- ---- a signature is for all others

abbrev is_other : ℕ → ℕ → Bool
is_other me r = not (r == me)

kept : (me x : ℕ) (xs : List ℕ) → x ≢ me → filter (is_other me) (x ∷ xs) ≡ x ∷ filter (is_other me) xs
kept me x xs h = ap (λ b. cond (not b) (x ∷ filter (is_other me) xs) (filter (is_other me) xs)) (ne_eqb x me h)

left_out : (me x : ℕ) (xs : List ℕ) → x ≡ me → filter (is_other me) (x ∷ xs) ≡ filter (is_other me) xs
left_out me x xs h = ap (λ b. cond (not b) (x ∷ filter (is_other me) xs) (filter (is_other me) xs)) (eq-eqb x me h)

above : (me start n : ℕ) → me < start → filter (is_other me) (range_with_len start n) ≡ range_with_len start n
above me start zero l = refl
above me start (suc n) l =
    kept me start (range_with_len (start + 1) n) (λ e. omega (arith, e, l)) ∙ ap (λ xs. start ∷ xs) (above me (start + 1) n (omega arith))

without : (me start k n total : ℕ) → me ≡ start + k → total ≡ k + suc n → filter (is_other me) (range_with_len start total) ≡ range_with_len start k ++ range_with_len (suc me) n
without me start k n zero e t = absurd (omega (arith, t))
without me start zero n (suc total) e t =
    let next : start + 1 ≡ suc me = omega arith in
    let same : total ≡ n = omega arith in
    left_out me start (range_with_len (start + 1) total) (omega arith) ∙ above me (start + 1) total (omega arith) ∙ ap (λ first. range_with_len first total) next
    ∙ ap (λ more. range_with_len (suc me) more) same
without me start (suc k) n (suc total) e t =
    kept me start (range_with_len (start + 1) total) (λ f. omega (arith, e, f)) ∙ ap (λ xs. start ∷ xs) (without me (start + 1) k n total (omega arith) (omega arith))

-- ---- the law

known : (c : Configuration) (replica : ℕ) (m : Message) → is_signed m ≡ true → is_replica c replica ≡ true → sends (signers c) replica m ≡ true
known c replica (Request t mode op) s h = absurd cc
known c replica _ s h = h

pub signed_frames_are_authentic : SignedFramesAreAuthentic
signed_frames_are_authentic c replica leaf message valid right within may kind short =
    let body : Body = record { sender = replica; message = message } in
    let text : List ℕ = body_spelling body in
    let seed : List ℕ = signing_seed c.seed replica in
    let bytes : List ℕ = signed_bytes c replica leaf text in
    let frame : Frame = record { body = body; authenticator = signature (signature_of seed leaf text) } in
    let verifies = signature_of-verifies seed text leaf within in
    let spelled : SpellsFrame bytes frame = record {
      valid = record {
        sender = omega (arith, ltb-true replica (replicas c) right, valid.most);
        message = may;
        authenticator = (verifies.formed.whole, signature_bytes seed leaf text within, verifies.formed.leaf);
        proved = sym kind;
        short = short;
      };
      spelled = refl;
    } in
    let own : public_of c.publics replica ≡ public_key seed = own_public c valid replica right in
    let told : signed_body (signers c) bytes ≡ Some body = signer_is_authentic (signers c) seed bytes body leaf within own (known c replica message kind right) spelled in
    record {
      frame = frame;
      made = signature_of seed leaf text;
      spells = (reads_frames bytes frame).1 spelled;
      says = reads_said bytes frame spelled;
      has_signature = refl;
      is_sealed =
          ap (λ (public : List ℕ). verifies_text public text (signature_of seed leaf text)) own
          ∙ (verifies-Decides (public_key seed) text (signature_of seed leaf text)).1 verifies;
      is_for =
          let l : replica < replicas c = ltb-true replica (replicas c) right in
          sym (without replica 0 replica (replicas c - suc replica) (replicas c) (omega arith) (omega arith));
      is_authentic_to = λ p other. signed_is_heard c p bytes body told other;
      is_told = told;
    }

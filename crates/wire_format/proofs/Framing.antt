-- Laws of authenticators, bodies and frames, from those of their messages.
use Rattle.std.proofs.Common.{◌≡◌, ℕ, suc, nat_le, ◌^◌, ◌<◌, ◌≤◌, Bool, true, false, ◌&&◌, List, [], ◌∷◌, ◌++◌, length}
use Rattle.std.proofs.Common.{slice_index, Option, Some, ap, sym, subst, refl, ◌∙◌, arith, append-nil, length-append}
use Rattle.std.proofs.lemmas.Bool.{eqb-true, leb-true, le-leb, ltb-true, lt-ltb, and_parts, and_from}
use Rattle.std.specs.Int.{w16, w32, to_be_bytes}
use Rattle.std.specs.Bool.{then_some}
use lib.Dec.{leb, eqb, ltb}
use Rattle.tuple_tree.specs.Values.{AreBytes}
use Rattle.tuple_codec.specs.Spelling.{Spells}
use Rattle.tuple_tree.specs.Reading.{◌>>=◌, Reader, read_as, byte_at, number_of}
use Rattle.tuple_tree.proofs.Readers.{Found, Again, bind_some, parts, guard_holds}
use Rattle.wire_format.specs.Messages.{MessageData, request, BodyData, MacData, AuthenticatorData, macs, signature}
use Rattle.wire_format.specs.Messages.{FrameData}
use Rattle.wire_format.specs.Lists.{each_spelling}
use Rattle.wire_format.specs.Spelling.{mac_spelling, message_type, fields_spelling, body_spelling}
use Rattle.wire_format.specs.Spelling.{authenticator_spelling, frame_spelling, piece, mac_before, IsAuthenticator}
use Rattle.wire_format.specs.Spelling.{is_signed, authenticator_is_signed, frame_limit, IsFrameOf}
use Rattle.wire_format.specs.Reading.{whole_value, piece_at, macs_at, authenticator_of, body_by, frame_by}
use Rattle.wire_format.proofs.Forms.{Format, ascending_of, all_some, passed_on}
use Rattle.wire_format.proofs.Parts.{count_from, mac, macs_reads, number_2_reads, byte_reads, piece_reads, piece_there}

-- all of the bytes
pub all_found : {V : Type 0} (IsValue : V → Type 0) (spelling : V → List ℕ) (at : Reader V) → Found IsValue spelling at → (bs : List ℕ) (v : V) → AreBytes bs → whole_value (at bs) ≡ Some v → (bs ≡ spelling v) × IsValue v
all_found IsValue spelling at reads bs v h e =
    let f = reads bs [] v h (all_some (at bs) v e) in
    (f.0.whole ∙ append-nil (spelling v), f.1)

pub all_again : {V : Type 0} (IsValue : V → Type 0) (spelling : V → List ℕ) (at : Reader V) → Again IsValue spelling at → (v : V) → IsValue v → whole_value (at (spelling v)) ≡ Some v
all_again IsValue spelling at reads v h = ap (λ bs. whole_value (at bs)) (sym (append-nil (spelling v))) ∙ ap whole_value (reads v [] h)

-- ---- authenticators

abbrev each_of : List MacData → List ℕ
each_of ms = each_spelling mac_spelling ms

abbrev authenticator_parts : Format (List MacData)
authenticator_parts = ascending_of mac_before (count_from 1 10) mac

pub authenticator_found : (signed : Bool) (bs : List ℕ) (p : AuthenticatorData) → AreBytes bs → authenticator_of signed bs ≡ Some p → (bs ≡ authenticator_spelling p) × IsAuthenticator p × (authenticator_is_signed p ≡ signed)
authenticator_found signed [] p h e = absurd (let g : ⊥ = cc in g)
authenticator_found false (b ∷ bs) p h e =
    let g = guard_holds (eqb b 0) (whole_value (read_as macs macs_at bs)) p e in
    let k = bind_some (macs_at bs) (λ x. Some (macs x.0, x.1)) (p, []) (all_some (read_as macs macs_at bs) p g.1) in
    let q = parts k.2 in
    let f = macs_reads.found bs k.0.1 k.0.0 (λ i. h (suc i)) k.1 in
    let counts = and_parts (leb 1 (length k.0.0)) (leb (length k.0.0) 10) f.1.0.1 in
    let whole : bs ≡ length k.0.0 ∷ each_of k.0.0 = f.0.whole ∙ ap (λ r. (length k.0.0 ∷ each_of k.0.0) ++ r) q.1 ∙ append-nil (length k.0.0 ∷ each_of k.0.0) in
    let all : ((b ∷ bs) ≡ authenticator_spelling (macs k.0.0)) × IsAuthenticator (macs k.0.0) × (authenticator_is_signed (macs k.0.0) ≡ false) =
    (ap (λ n. n ∷ bs) (eqb-true b 0 g.0) ∙ ap (λ xs. 0 ∷ xs) whole, (leb-true _ _ counts.0, leb-true _ _ counts.1, f.1.1.0, f.1.1.1), refl) in
    subst (λ p. ((b ∷ bs) ≡ authenticator_spelling p) × IsAuthenticator p × (authenticator_is_signed p ≡ false)) q.0 all
authenticator_found true (b ∷ bs) p h e =
    let g = guard_holds (eqb b 1 && (eqb (length bs) 16577 && ltb (slice_index bs 0) 64)) (Some (signature bs)) p e in
    let t = and_parts (eqb b 1) (eqb (length bs) 16577 && ltb (slice_index bs 0) 64) g.0 in
    let u = and_parts (eqb (length bs) 16577) (ltb (slice_index bs 0) 64) t.1 in
    let q : signature bs ≡ p = cc in
    let all : ((b ∷ bs) ≡ authenticator_spelling (signature bs)) × IsAuthenticator (signature bs) × (authenticator_is_signed (signature bs) ≡ true) =
    (ap (λ n. n ∷ bs) (eqb-true b 1 t.0), (eqb-true _ _ u.0, (λ i. h (suc i)), ltb-true _ _ u.1), refl) in
    subst (λ p. ((b ∷ bs) ≡ authenticator_spelling p) × IsAuthenticator p × (authenticator_is_signed p ≡ true)) q all

signature_again : (s : List ℕ) → IsAuthenticator (signature s) → authenticator_of true (1 ∷ s) ≡ Some (signature s)
signature_again s h =
    let t : eqb (length s) 16577 ≡ true = ap (λ n. eqb n 16577) h.0 in
    let u : ltb (slice_index s 0) 64 ≡ true = lt-ltb _ _ h.2 in
    rw (t, u) refl

macs_again : (ms : List MacData) → IsAuthenticator (macs ms) → authenticator_of false (authenticator_spelling (macs ms)) ≡ Some (macs ms)
macs_again ms h =
    let v : authenticator_parts.IsValue ms = ((omega (arith, h.1), and_from _ _ (le-leb _ _ h.0) (le-leb _ _ h.1)), (h.2, h.3)) in
    let e : macs_at (authenticator_parts.spelling ms) ≡ Some (ms, []) = ap macs_at (sym (append-nil (authenticator_parts.spelling ms))) ∙ macs_reads.again ms [] v in
    ap (λ o. whole_value (o >>= λ x. Some (macs x.0, x.1))) e

pub authenticator_again : (p : AuthenticatorData) → IsAuthenticator p → authenticator_of (authenticator_is_signed p) (authenticator_spelling p) ≡ Some p
authenticator_again (macs ms) h = macs_again ms h
authenticator_again (signature s) h = signature_again s h

-- ---- bodies and frames

pub limit_bound : (m : MessageData) → frame_limit m ≤ 4194304
limit_bound (request timestamp mode operation) = omega arith
limit_bound _ = omega arith

module _ (message : ℕ → List ℕ → Option MessageData) (IsSaid : MessageData → Type 0) where
  abbrev pub FoundBy : Type 0
  FoundBy = (type : ℕ) (bs : List ℕ) (m : MessageData) → AreBytes bs → message type bs ≡ Some m → (type ≡ message_type m) × (bs ≡ fields_spelling m) × IsSaid m

  abbrev pub AgainBy : Type 0
  AgainBy = (m : MessageData) → IsSaid m → message (message_type m) (fields_spelling m) ≡ Some m

  pub body_found : FoundBy → (bs : List ℕ) (b : BodyData) → AreBytes bs → body_by message bs ≡ Some b → (bs ≡ body_spelling b) × (b.sender < 2 ^ 16) × IsSaid b.message
  body_found reads bs b h e =
      let t = bind_some (byte_at bs) (λ t. number_of 2 t.1 >>= λ s. message t.0 s.1 >>= λ m. Some (record { sender = s.0; message = m })) b e in
      let ft = byte_reads.found bs t.0.1 t.0.0 h t.1 in
      let s = bind_some (number_of 2 t.0.1) (λ s. message t.0.0 s.1 >>= λ m. Some (record { sender = s.0; message = m })) b t.2 in
      let fs = number_2_reads.found t.0.1 s.0.1 s.0.0 ft.0.bytes s.1 in
      let m = bind_some (message t.0.0 s.0.1) (λ m. Some (record { sender = s.0.0; message = m })) b s.2 in
      let fm = reads t.0.0 s.0.1 m.0 fs.0.bytes m.1 in
      let made : BodyData = record { sender = s.0.0; message = m.0 } in
      let q : made ≡ b = cc in
      let whole : bs ≡ body_spelling made =
      ft.0.whole ∙ ap (λ xs. t.0.0 ∷ xs) fs.0.whole ∙ ap (λ n. n ∷ (to_be_bytes w16 s.0.0 ++ s.0.1)) fm.0 ∙ ap (λ xs. message_type m.0 ∷ (to_be_bytes w16 s.0.0 ++ xs)) fm.1 in
      let all : (bs ≡ body_spelling made) × (made.sender < 2 ^ 16) × IsSaid made.message = (whole, fs.1, fm.2) in
      subst (λ b. (bs ≡ body_spelling b) × (b.sender < 2 ^ 16) × IsSaid b.message) q all

  pub body_again : AgainBy → (b : BodyData) → b.sender < 2 ^ 16 → IsSaid b.message → body_by message (body_spelling b) ≡ Some b
  body_again reads b l h =
      ap (λ o. o >>= λ s. message (message_type b.message) s.1 >>= λ m. Some (record { sender = s.0; message = m })) (number_2_reads.again b.sender (fields_spelling b.message) l)
      ∙ ap (λ o. o >>= λ m. Some (record { sender = b.sender; message = m })) (reads b.message h)

  pub frame_found : FoundBy → (bs : List ℕ) (f : FrameData) → AreBytes bs → frame_by message bs ≡ Some f → Spells (IsFrameOf IsSaid) frame_spelling bs f
  frame_found reads bs f h e =
      let t = bind_some (piece_at bs) (λ text. body_by message text.0 >>= λ body. authenticator_of (is_signed body.message) text.1 >>= λ authenticator. then_some (nat_le (length bs) (frame_limit body.message)) (record { body = body; authenticator = authenticator })) f e in
      let ft = piece_reads.found bs t.0.1 t.0.0 h t.1 in
      let b = bind_some (body_by message t.0.0) (λ body. authenticator_of (is_signed body.message) t.0.1 >>= λ authenticator. then_some (nat_le (length bs) (frame_limit body.message)) (record { body = body; authenticator = authenticator })) f t.2 in
      let fb = body_found reads t.0.0 b.0 ft.1.1 b.1 in
      let p = bind_some (authenticator_of (is_signed b.0.message) t.0.1) (λ authenticator. then_some (nat_le (length bs) (frame_limit b.0.message)) (record { body = b.0; authenticator = authenticator })) f b.2 in
      let fp = authenticator_found (is_signed b.0.message) t.0.1 p.0 ft.0.bytes p.1 in
      let g = passed_on (leb (length bs) (frame_limit b.0.message)) (record { body = b.0; authenticator = p.0 }) f p.2 in
      let made : FrameData = record { body = b.0; authenticator = p.0 } in
      let q : made ≡ f = cc in
      let whole : bs ≡ frame_spelling made = ft.0.whole ∙ ap (λ xs. piece xs ++ t.0.1) fb.0 ∙ ap (λ xs. piece (body_spelling b.0) ++ xs) fp.0 in
      let short : length (frame_spelling made) ≤ frame_limit b.0.message = subst (λ xs. length xs ≤ frame_limit b.0.message) whole (leb-true _ _ g.0) in
      let all : Spells (IsFrameOf IsSaid) frame_spelling bs made = record { valid = record { sender = fb.1; message = fb.2; authenticator = fp.1; proved = fp.2; short = short }; spelled = whole } in
      subst (λ f. Spells (IsFrameOf IsSaid) frame_spelling bs f) q all

  pub text_bound : (f : FrameData) → IsFrameOf IsSaid f → length (body_spelling f.body) < 2 ^ 32
  text_bound f h = omega (arith, h.short, limit_bound f.body.message, length-append (piece (body_spelling f.body)) (authenticator_spelling f.authenticator), length-append (to_be_bytes w32 (length (body_spelling f.body))) (body_spelling f.body))

  pub frame_again : AgainBy → (f : FrameData) → IsFrameOf IsSaid f → frame_by message (frame_spelling f) ≡ Some f
  frame_again reads f h =
      let n : ℕ = length (frame_spelling f) in
      let authenticator : authenticator_of (is_signed f.body.message) (authenticator_spelling f.authenticator) ≡ Some f.authenticator = ap (λ b. authenticator_of b (authenticator_spelling f.authenticator)) (sym h.proved) ∙ authenticator_again f.authenticator h.authenticator in
      ap (λ o. o >>= λ text. body_by message text.0 >>= λ body. authenticator_of (is_signed body.message) text.1 >>= λ authenticator. then_some (nat_le n (frame_limit body.message)) (record { body = body; authenticator = authenticator })) (piece_there (body_spelling f.body) (authenticator_spelling f.authenticator) (text_bound f h))
      ∙ ap (λ o. o >>= λ body. authenticator_of (is_signed body.message) (authenticator_spelling f.authenticator) >>= λ authenticator. then_some (nat_le n (frame_limit body.message)) (record { body = body; authenticator = authenticator })) (body_again reads f.body h.sender h.message)
      ∙ ap (λ o. o >>= λ authenticator. then_some (nat_le n (frame_limit f.body.message)) (record { body = f.body; authenticator = authenticator })) authenticator
      ∙ ap (λ b. then_some b f) (le-leb n (frame_limit f.body.message) h.short)

-- The laws of the definitions on bytes.
use Rattle.std.proofs.Common.{◌≡◌, ℕ, Bool, List, [], ◌∷◌, ◌++◌, length, take, map, flat_map, Option, Some, None, ap}
use Rattle.std.proofs.Common.{sym, subst, refl, ◌∙◌, arith, append_assoc}
use Rattle.std.proofs.lemmas.List.{take_at}
use Rattle.std.proofs.lemmas.Bool.{le-leb, leb-true, and_parts, and_from}
use lib.Dec.{leb}
use Rattle.tuple_tree.proofs.Readers.{parts}
use Rattle.wire_format.specs.Lists.{Each, each_spelling}
use Rattle.wire_format.specs.Messages.{MessageData, pre_prepare, new_view, MacData, AuthenticatorData, macs, signature}
use Rattle.wire_format.specs.Messages.{FrameData}
use Rattle.wire_format.specs.Spelling.{body_spelling, authenticator_spelling, frame_spelling, piece, pieces_spelling}
use Rattle.wire_format.specs.Spelling.{mac_spelling, mac_before, IsMessage, IsAuthenticator, IsCarried, IsBatch}
use Rattle.wire_format.specs.Spelling.{is_ordered_request, is_view_change, is_signed, authenticator_is_signed}
use Rattle.wire_format.specs.Spelling.{SpellsBody, SpellsFrame}
use Rattle.wire_format.specs.Reading.{whole_value, requests_at, piece_at, macs_at, message_by}
use Rattle.wire_format.specs.Words.{requests_of, requests_of_all, ReadsBodies, ReadsRequests, ReadsBatches}
use Rattle.wire_format.specs.Words.{CarriesFrames, CarriesAll, HasOneFrame, HasOneBody}
use Rattle.wire_format.proofs.Forms.{ascending_of}
use Rattle.wire_format.proofs.Parts.{piece_there, macs_reads, count_from, mac}
use Rattle.wire_format.proofs.Framing.{text_bound, all_found, all_again}
use Rattle.wire_format.proofs.Carriers.{requests_parts, requests_reads, to_message, body_of_found, body_of_again}

pub reads_bodies : ReadsBodies
reads_bodies bs b h = (λ e. body_of_found bs b h e, λ s. body_of_again bs b s)

is_requests : (least : ℕ) (text : List ℕ) (b : IsBatch least text) → requests_of text ≡ b.requests
unfolding requests_of
is_requests least text b =
    let v : (requests_parts 0).IsValue b.requests = ((omega (arith, b.few), and_from _ _ (le-leb 0 (length b.requests) (omega arith)) (le-leb _ _ b.few)), (b.each, refl)) in
    let e : whole_value (requests_at 0 text) ≡ Some b.requests = ap (λ t. whole_value (requests_at 0 t)) b.whole ∙ all_again (requests_parts 0).IsValue (requests_parts 0).spelling (requests_at 0) (requests_reads 0).again b.requests v in
    rw e refl

pub reads_requests : ReadsRequests
reads_requests requests few each = is_requests 0 (pieces_spelling requests) (record { requests = requests; whole = refl; enough = omega arith; few = few; each = each })

pub reads_batches : ReadsBatches
unfolding requests_of
reads_batches text h some = cases (whole_value (requests_at 0 text)) refl
  where
    cases : (o : Option (List (List ℕ))) → whole_value (requests_at 0 text) ≡ o → IsBatch 1 text
    cases None e = absurd (let none : requests_of text ≡ [] = rw e refl in omega (arith, some, ap length none))
    cases (Some requests) e =
        let same : requests_of text ≡ requests = rw e refl in
        let f = all_found (requests_parts 0).IsValue (requests_parts 0).spelling (requests_at 0) (requests_reads 0).found text requests h e in
        let c = and_parts (leb 0 (length requests)) (leb (length requests) 16) f.1.0.1 in
        record { requests = requests; whole = f.0; enough = omega (arith, some, ap length same); few = leb-true _ _ c.1; each = f.1.1.0 }

-- ---- messages that other messages carry

abbrev IsSpelled : List ℕ → Type 0
IsSpelled bs = (f : FrameData) × SpellsFrame bs f

carried_spelled : (sort : MessageData → Bool) (bs : List ℕ) → IsCarried sort bs → IsSpelled bs
carried_spelled sort bs c =
    let v = c.spelled.valid in
    (c.frame, record { valid = record { sender = v.sender; message = to_message c.frame.body.message v.message; authenticator = v.authenticator; proved = v.proved; short = v.short }; spelled = c.spelled.spelled })

each_spelled : (sort : MessageData → Bool) (xs : List (List ℕ)) → Each (IsCarried sort) xs → Each IsSpelled xs
each_spelled sort [] h = tt
each_spelled sort (x ∷ xs) h = (carried_spelled sort x h.0, each_spelled sort xs h.1)

each_append : (xs ys : List (List ℕ)) → Each IsSpelled xs → Each IsSpelled ys → Each IsSpelled (xs ++ ys)
each_append [] ys h k = k
each_append (x ∷ xs) ys h k = (h.0, each_append xs ys h.1 k)

batch_spelled : (least : ℕ) (text : List ℕ) → IsBatch least text → Each IsSpelled (requests_of text)
batch_spelled least text b = subst (Each IsSpelled) (sym (is_requests least text b)) (each_spelled is_ordered_request b.requests b.each)

all_spelled : (batches : List (List ℕ)) → Each (IsBatch 0) batches → Each IsSpelled (requests_of_all batches)
all_spelled [] h = tt
all_spelled (b ∷ bs) h = each_append (requests_of b) (requests_of_all bs) (batch_spelled 0 b h.0) (all_spelled bs h.1)

pub carries_frames : CarriesFrames
carries_frames (pre_prepare view number text) h = batch_spelled 1 text h.2
carries_frames (new_view n) h = each_append n.changes (requests_of_all n.batches) (each_spelled is_view_change n.changes h.changes) (all_spelled n.batches h.batches)
carries_frames _ h = tt

split : (batches : List (List ℕ)) → Each (IsBatch 0) batches → (lists : List (List (List ℕ))) × (batches ≡ map pieces_spelling lists) × (requests_of_all batches ≡ flat_map (λ requests. requests) lists)
split [] h = ([], refl, refl)
split (b ∷ bs) h =
    let rest = split bs h.1 in
    let whole : b ≡ pieces_spelling h.0.requests = h.0.whole in
    (h.0.requests ∷ rest.0, ap (λ x. x ∷ bs) whole ∙ ap (λ xs. pieces_spelling h.0.requests ∷ xs) rest.1, ap (λ x. x ++ requests_of_all bs) (is_requests 0 b h.0) ∙ ap (λ xs. h.0.requests ++ xs) rest.2)

pub carries_all : CarriesAll
carries_all (pre_prepare view number text) h = h.2.whole ∙ ap pieces_spelling (sym (is_requests 1 text h.2))
carries_all (new_view n) h = let s = split n.batches h.batches in (s.0, s.1, ap (λ xs. n.changes ++ xs) s.2)
carries_all _ h = refl

-- ---- one spelling

pub one_body : HasOneBody
one_body bs b c s t = let e : Some b ≡ Some c = sym (body_of_again bs b s) ∙ body_of_again bs c t in cc

macs_value : (ms : List MacData) → IsAuthenticator (macs ms) → (ascending_of mac_before (count_from 1 10) mac).IsValue ms
macs_value ms h = ((omega (arith, h.1), and_from _ _ (le-leb _ _ h.0) (le-leb _ _ h.1)), (h.2, h.3))

-- no authenticator of a kind begins another one
one_authenticator : (p q : AuthenticatorData) (x y : List ℕ) → IsAuthenticator p → IsAuthenticator q → authenticator_is_signed p ≡ authenticator_is_signed q → authenticator_spelling p ++ x ≡ authenticator_spelling q ++ y → p ≡ q
one_authenticator (macs ms) (macs ns) x y h k e w =
    let v : length ms ∷ each_spelling mac_spelling ms ++ x ≡ length ns ∷ each_spelling mac_spelling ns ++ y = cc in
    let r : Some (ms, x) ≡ Some (ns, y) = sym (macs_reads.again ms x (macs_value ms h)) ∙ ap macs_at v ∙ macs_reads.again ns y (macs_value ns k) in
    ap macs (parts r).0
one_authenticator (macs ms) (signature s) x y h k e w = absurd (let g : ⊥ = cc in g)
one_authenticator (signature s) (macs ms) x y h k e w = absurd (let g : ⊥ = cc in g)
one_authenticator (signature s) (signature t) x y h k e w =
    let v : s ++ x ≡ t ++ y = cc in
    let q : s ≡ t = sym (take_at s x 16577 h.0) ∙ ap (take 16577) v ∙ take_at t y 16577 k.0 in
    ap signature q

pub one_frame : HasOneFrame
one_frame a b x y f g s t e =
    let u : piece (body_spelling f.body) ++ (authenticator_spelling f.authenticator ++ x) ≡ piece (body_spelling g.body) ++ (authenticator_spelling g.authenticator ++ y) =
    sym (append_assoc (piece (body_spelling f.body)) (authenticator_spelling f.authenticator) x) ∙ ap (λ z. z ++ x) (sym s.spelled) ∙ e ∙ ap (λ z. z ++ y) t.spelled ∙ append_assoc (piece (body_spelling g.body)) (authenticator_spelling g.authenticator) y in
    let r : Some (body_spelling f.body, authenticator_spelling f.authenticator ++ x) ≡ Some (body_spelling g.body, authenticator_spelling g.authenticator ++ y) =
    sym (piece_there (body_spelling f.body) (authenticator_spelling f.authenticator ++ x) (text_bound message_by IsMessage f s.valid)) ∙ ap piece_at u ∙ piece_there (body_spelling g.body) (authenticator_spelling g.authenticator ++ y) (text_bound message_by IsMessage g t.valid) in
    let p = parts r in
    let sf : SpellsBody (body_spelling f.body) f.body = record { valid = record { sender = s.valid.sender; message = s.valid.message }; spelled = refl } in
    let sg : SpellsBody (body_spelling f.body) g.body = record { valid = record { sender = t.valid.sender; message = t.valid.message }; spelled = p.0 } in
    let body : f.body ≡ g.body = one_body (body_spelling f.body) f.body g.body sf sg in
    let kind : authenticator_is_signed f.authenticator ≡ authenticator_is_signed g.authenticator = s.valid.proved ∙ ap (λ b. is_signed b.message) body ∙ sym t.valid.proved in
    let authenticator : f.authenticator ≡ g.authenticator = one_authenticator f.authenticator g.authenticator x y s.valid.authenticator t.valid.authenticator kind p.1 in
    let same : f ≡ g = ap (λ b. record { body = b; authenticator = f.authenticator }) body ∙ ap (λ q. record { body = g.body; authenticator = q }) authenticator in
    (s.spelled ∙ ap frame_spelling same ∙ sym t.spelled, same)

-- Messages that fit a frame, by the lengths of their fields.
use Rattle.std.proofs.Common.{◌≡◌, ℕ, ◌+◌, ◌*◌, ◌≤◌, false, List, [], ◌∷◌, ◌++◌, length, length-append, refl, ap, ◌∙◌, arith}
use Rattle.std.specs.Prelude.{IsTrue}
use Rattle.std.specs.Int.{w16, w32, w64, to_be_bytes}
use Rattle.terms.specs.declared.order.Mode.TheVariants as modes
use Rattle.tuple_codec.specs.Spelling.{operation_spelling, outcome_spelling}
use Rattle.wire_format.specs.Lists.{Each, each_spelling}
use Rattle.wire_format.specs.Messages.{MacData, NewViewData, AuthenticatorData as Authenticator, macs, signature, BodyData, MessageData as Message, request, pre_prepare, prepare, commit, checkpoint, view_change, new_view, reply, fetch, meta, page}
use Rattle.wire_format.specs.Spelling.{IsAuthenticator, IsBatch, IsCarried, IsDigest, IsMac, IsMessage, IsNewView, IsPlain, batches_spelling, is_view_change, pieces_spelling, authenticator_is_signed, authenticator_spelling, body_spelling, fields_spelling, frame_limit, is_ordered_request, is_signed, mac_spelling, mode_byte, level_byte, piece}
use Rattle.tuple_codec.proofs.Lengths.{operation_short, outcome_short}
use Rattle.authenticator.specs.Keys.{Keys}
use Rattle.authenticator.specs.Sealing.{IsSealable, IsTooLong, sealed_for}
use Rattle.authenticator.proofs.Sealing.{sealed-short}
use Rattle.frame_endpoint.specs.Endpoint.{FitsFrame, SignedExceeds, says}

-- ---- batches

macs_length : (ms : List MacData) → Each IsMac ms → length (each_spelling mac_spelling ms) ≡ 34 * length ms
macs_length [] are = refl
macs_length (m ∷ ms) are =
    let first = are.0.1.whole in
    let rest = macs_length ms are.1 in
    let n = length-append (mac_spelling m) (each_spelling mac_spelling ms) in
    let k = length-append (to_be_bytes w16 m.receiver) m.mac in
    omega (arith, first, rest, n, k)

authenticator_short : (a : Authenticator) → authenticator_is_signed a ≡ false → IsAuthenticator a → length (authenticator_spelling a) ≤ 342
authenticator_short (macs ms) unsigned is = let n = macs_length ms is.2 in let l = is.1 in omega (arith, n, l)
authenticator_short (signature s) unsigned is = absurd cc

request_short : (m : Message) → IsTrue (is_ordered_request m) → IsPlain m → (length (fields_spelling m) ≤ 2058) × (is_signed m ≡ false)
request_short (request t modes.Ordered op) sorted is =
    let n = length-append (to_be_bytes w64 t) (mode_byte modes.Ordered ∷ operation_spelling op) in
    let l = operation_short op is.1 in
    (omega (arith, n, l), refl)
request_short _ sorted is = absurd cc

-- a body after its length
body_length : (body : BodyData) → length (piece (body_spelling body)) ≡ 7 + length (fields_spelling body.message)
body_length body =
    let n = length-append (to_be_bytes w32 (length (body_spelling body))) (body_spelling body) in
    let k = length-append (to_be_bytes w16 body.sender) (fields_spelling body.message) in
    omega (arith, n, k)

carried_short : (bs : List ℕ) → IsCarried is_ordered_request bs → length bs ≤ 2407
carried_short bs is =
    let f = is.frame in
    let fields = request_short f.body.message is.sorted is.spelled.valid.message in
    let whole = ap length is.spelled.spelled in
    let n = length-append (piece (body_spelling f.body)) (authenticator_spelling f.authenticator) in
    let body = body_length f.body in
    let l = authenticator_short f.authenticator (is.spelled.valid.proved ∙ fields.1) is.spelled.valid.authenticator in
    let m = fields.0 in
    omega (arith, whole, n, body, l, m)

pieces_short : (requests : List (List ℕ)) → Each (IsCarried is_ordered_request) requests → length (each_spelling piece requests) ≤ 2411 * length requests
pieces_short [] are = omega arith
pieces_short (x ∷ xs) are =
    let first = carried_short x are.0 in
    let rest = pieces_short xs are.1 in
    let n = length-append (piece x) (each_spelling piece xs) in
    let k = length-append (to_be_bytes w32 (length x)) x in
    omega (arith, first, rest, n, k)

batch_short : (least : ℕ) (text : List ℕ) → IsBatch least text → length text ≤ 38577
batch_short least text is =
    let whole = ap length is.whole in
    let l = pieces_short is.requests is.each in
    let few = is.few in
    omega (arith, whole, l, few)

-- ---- a new view

change_limit : (m : Message) → IsTrue (is_view_change m) → frame_limit m ≡ 262144
change_limit (view_change change) h = refl
change_limit _ h = absurd cc

change_short : (bs : List ℕ) → IsCarried is_view_change bs → length bs ≤ 262144
change_short bs is =
    let whole = ap length is.spelled.spelled in
    let short = is.spelled.valid.short in
    let most = change_limit is.frame.body.message is.sorted in
    omega (arith, whole, short, most)

changes_short : (frames : List (List ℕ)) → Each (IsCarried is_view_change) frames → length (each_spelling piece frames) ≤ 262148 * length frames
changes_short [] are = omega arith
changes_short (x ∷ xs) are =
    let first = change_short x are.0 in
    let rest = changes_short xs are.1 in
    let n = length-append (piece x) (each_spelling piece xs) in
    let k = length-append (to_be_bytes w32 (length x)) x in
    omega (arith, first, rest, n, k)

batches_short : (batches : List (List ℕ)) → Each (IsBatch 0) batches → length (each_spelling (λ b. b) batches) ≤ 38577 * length batches
batches_short [] are = omega arith
batches_short (b ∷ bs) are =
    let first = batch_short 0 b are.0 in
    let rest = batches_short bs are.1 in
    let n = length-append b (each_spelling (λ (x : List ℕ). x) bs) in
    omega (arith, first, rest, n)

new_view_short : (new : NewViewData) → IsNewView new → length (fields_spelling (new_view new)) ≤ 3855994
new_view_short new is =
    let behind_start = new.root ++ batches_spelling new.batches in
    let a = length-append (to_be_bytes w64 new.view) (pieces_spelling new.changes ++ (to_be_bytes w64 new.start ++ behind_start)) in
    let b = length-append (pieces_spelling new.changes) (to_be_bytes w64 new.start ++ behind_start) in
    let d = length-append (to_be_bytes w64 new.start) behind_start in
    let e = length-append new.root (batches_spelling new.batches) in
    let root = is.root.whole in
    let changes = changes_short new.changes is.changes in
    let few = is.few in
    let batches = batches_short new.batches is.batches in
    let count = is.count in
    omega (arith, a, b, d, e, root, changes, few, batches, count)

-- ---- digests

digests_length : (digests : List (List ℕ)) → Each IsDigest digests → length (each_spelling (λ d. d) digests) ≡ 32 * length digests
digests_length [] are = refl
digests_length (d ∷ ds) are =
    let first = are.0.whole in
    let rest = digests_length ds are.1 in
    let n = length-append d (each_spelling (λ (x : List ℕ). x) ds) in
    omega (arith, first, rest, n)

vote_length : (view number : ℕ) (digest : List ℕ) → IsDigest digest → length (to_be_bytes w64 view ++ (to_be_bytes w64 number ++ digest)) ≡ 48
vote_length view number digest is =
    let n = length-append (to_be_bytes w64 view) (to_be_bytes w64 number ++ digest) in
    let k = length-append (to_be_bytes w64 number) digest in
    let w = is.whole in
    omega (arith, n, k, w)

-- a signed new view is never too long
pub new_views_fit : (me : ℕ) (new : NewViewData) → IsNewView new → SignedExceeds (says me (new_view new)) → ⊥
new_views_fit me new is exceeds = let n = body_length (says me (new_view new)) in let l = new_view_short new is in omega (arith, n, l, exceeds)

-- ---- messages with MACs

fields_short : (m : Message) → IsMessage m → is_signed m ≡ false → FitsFrame m → length (fields_spelling m) ≤ 4193955
fields_short (request t mode op) is unsigned fits =
    let n = length-append (to_be_bytes w64 t) (mode_byte mode ∷ operation_spelling op) in
    let l = operation_short op is.1 in
    omega (arith, n, l)
fields_short (pre_prepare view number batch) is unsigned fits =
    let n = length-append (to_be_bytes w64 view) (to_be_bytes w64 number ++ batch) in
    let k = length-append (to_be_bytes w64 number) batch in
    let l = batch_short 1 batch is.2 in
    omega (arith, n, k, l)
fields_short (prepare view number digest) is unsigned fits = let n = vote_length view number digest is.2 in omega (arith, n)
fields_short (commit view number digest) is unsigned fits = let n = vote_length view number digest is.2 in omega (arith, n)
fields_short (checkpoint number root) is unsigned fits =
    let n = length-append (to_be_bytes w64 number) root in
    let w = is.1.whole in
    omega (arith, n, w)
fields_short (view_change change) is unsigned fits = absurd cc
fields_short (new_view new) is unsigned fits = absurd cc
fields_short (reply client t kind number outcome) is unsigned fits =
    let n = length-append (to_be_bytes w16 client) (to_be_bytes w64 t ++ mode_byte kind ∷ (to_be_bytes w64 number ++ outcome_spelling outcome)) in
    let k = length-append (to_be_bytes w64 t) (mode_byte kind ∷ (to_be_bytes w64 number ++ outcome_spelling outcome)) in
    let j = length-append (to_be_bytes w64 number) (outcome_spelling outcome) in
    let l = outcome_short outcome is.4 in
    omega (arith, n, k, j, l)
fields_short (fetch number level index) is unsigned fits =
    let n = length-append (to_be_bytes w64 number) (level_byte level ∷ to_be_bytes w16 index) in
    omega (arith, n)
fields_short (meta number level index digests) is unsigned fits =
    let n = length-append (to_be_bytes w64 number) (level_byte level ∷ (to_be_bytes w16 index ++ each_spelling (λ (d : List ℕ). d) digests)) in
    let k = length-append (to_be_bytes w16 index) (each_spelling (λ (d : List ℕ). d) digests) in
    let l = digests_length digests is.4 in
    let few = is.3 in
    omega (arith, n, k, l, few)
fields_short (page number index text) is unsigned fits =
    let n = length-append (to_be_bytes w64 number) (to_be_bytes w16 index ++ text) in
    let k = length-append (to_be_bytes w16 index) text in
    omega (arith, n, k, fits)

limit : (m : Message) → is_signed m ≡ false → frame_limit m ≡ 4194304
limit (view_change change) unsigned = absurd cc
limit _ unsigned = refl

-- with the MACs of the parties it isn't too long
pub never_too_long : (keys : Keys) (body : BodyData) (parties : List ℕ) → IsSealable body parties → FitsFrame body.message → IsTooLong (sealed_for keys body parties) → ⊥
never_too_long keys body parties can fits =
    let n = body_length body in
    let l = fields_short body.message can.said.message can.unsigned fits in
    let most = limit body.message can.unsigned in
    let few = can.few in
    sealed-short keys body parties (omega (arith, n, l, most, few))

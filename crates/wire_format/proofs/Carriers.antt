-- Laws of messages that carry frames, and of all messages.
use Rattle.std.proofs.Common.{◌≡◌, inl, inr, ℕ, ◌≤◌, Bool, true, cond, List, [], ◌++◌, length, Option, Some, None}
use Rattle.std.proofs.Common.{is_some, ap, sym, refl, ◌∙◌, arith}
use Rattle.std.proofs.lemmas.Bool.{eqb-true, leb-true, le-leb, and_parts, and_from}
use Rattle.std.specs.Bool.{then_some}
use lib.Dec.{leb, eqb}
use Rattle.tuple_tree.specs.Values.{AreBytes}
use Rattle.tuple_tree.specs.Reading.{◌>>=◌, Reader, read_as}
use Rattle.tuple_tree.proofs.Readers.{Takes, Found, guard_holds, choice}
use Rattle.tuple_codec.proofs.Grammar.{Reads}
use Rattle.wire_format.specs.Messages.{MessageData, request, pre_prepare, prepare, commit, checkpoint, view_change}
use Rattle.wire_format.specs.Messages.{new_view, reply, fetch, meta, page, NewViewData, BodyData, FrameData}
use Rattle.wire_format.specs.Spelling.{message_type, fields_spelling, piece, pieces_spelling, IsPlain, IsMessage}
use Rattle.wire_format.specs.Spelling.{IsFrameOf, IsCarried, IsBatch, IsNewView, is_ordered_request, is_view_change}
use Rattle.wire_format.specs.Spelling.{sender_before, SpellsBody, SpellsFrame}
use Rattle.wire_format.specs.Reading.{passing, whole_value, frame_by, request_by, view_change_by, is_request, is_change}
use Rattle.wire_format.specs.Reading.{piece_at, requests_at, batch_text_at, batches_at, changes_at, new_view_at}
use Rattle.wire_format.specs.Reading.{pre_prepare_at, request_at, vote_at, checkpoint_at, view_change_at, reply_at}
use Rattle.wire_format.specs.Reading.{fetch_at, meta_at, page_at, message_at, message_by, body_of, frame_read}
use Rattle.wire_format.proofs.Forms.{Format, both_of, several_of, ascending_of, passing_found, as_found, as_again}
use Rattle.wire_format.proofs.Parts.{long, digest, count_from, count_to, IsPiece, piece_reads, piece_there}
use Rattle.wire_format.proofs.Framing.{FoundBy, AgainBy, all_found, body_found, body_again, frame_found, frame_again}
use Rattle.wire_format.proofs.Framing.{limit_bound}
use Rattle.wire_format.proofs.Plain.{IsOfType, IsSort, made_found, made_again, request_found, request_again}
use Rattle.wire_format.proofs.Plain.{prepare_found, prepare_again, commit_found, commit_again, checkpoint_found}
use Rattle.wire_format.proofs.Plain.{checkpoint_again, view_change_found, view_change_again, reply_found, reply_again}
use Rattle.wire_format.proofs.Plain.{fetch_found, fetch_again, meta_found, meta_again, page_found, page_again}
use Rattle.wire_format.proofs.Plain.{request_by_found, request_by_again, change_by_found, change_by_again}

-- ---- messages that other messages carry

pub some_there : {A : Type 0} (o : Option A) → is_some o ≡ true → (x : A) × (o ≡ Some x)
some_there None e = absurd (let g : ⊥ = cc in g)
some_there (Some x) e = (x, refl)

module _ (by : ℕ → List ℕ → Option MessageData) (sort : MessageData → Bool) where
  pub carried_found : FoundBy by (IsSort sort) → (bs : List ℕ) → AreBytes bs → is_some (frame_by by bs) ≡ true → IsCarried sort bs
  carried_found reads bs h e =
      let k = some_there (frame_by by bs) e in
      let f = frame_found by (IsSort sort) reads bs k.0 h k.1 in
      record {
        frame = k.0;
        spelled = record { valid = record { sender = f.valid.sender; message = f.valid.message.0; authenticator = f.valid.authenticator; proved = f.valid.proved; short = f.valid.short }; spelled = f.spelled };
        sorted = f.valid.message.1;
      }

  pub carried_again : AgainBy by (IsSort sort) → (bs : List ℕ) → IsCarried sort bs → is_some (frame_by by bs) ≡ true
  carried_again reads bs c =
      let v = c.spelled.valid in
      let f : IsFrameOf (IsSort sort) c.frame = record { sender = v.sender; message = (v.message, c.sorted); authenticator = v.authenticator; proved = v.proved; short = v.short } in
      ap (λ xs. is_some (frame_by by xs)) c.spelled.spelled ∙ ap is_some (frame_again by (IsSort sort) reads c.frame f)

pub carried_length : (sort : MessageData → Bool) (bs : List ℕ) → IsCarried sort bs → length bs ≤ 4194304
carried_length sort bs c = omega (arith, ap length c.spelled.spelled, c.spelled.valid.short, limit_bound c.frame.body.message)

pub request_is : (bs : List ℕ) → AreBytes bs → is_request bs ≡ true → IsCarried is_ordered_request bs
unfolding is_request
request_is bs h e = carried_found request_by is_ordered_request request_by_found bs h e

pub request_has : (bs : List ℕ) → IsCarried is_ordered_request bs → is_request bs ≡ true
unfolding is_request
request_has bs c = carried_again request_by is_ordered_request request_by_again bs c

pub change_is : (bs : List ℕ) → AreBytes bs → is_change bs ≡ true → IsCarried is_view_change bs
unfolding is_change
change_is bs h e = carried_found view_change_by is_view_change change_by_found bs h e

pub change_has : (bs : List ℕ) → IsCarried is_view_change bs → is_change bs ≡ true
unfolding is_change
change_has bs c = carried_again view_change_by is_view_change change_by_again bs c

module _ (sort : MessageData → Bool) (test : List ℕ → Bool) (is : (bs : List ℕ) → AreBytes bs → test bs ≡ true → IsCarried sort bs) (has : (bs : List ℕ) → IsCarried sort bs → test bs ≡ true) where
  pub carried_reads : Reads (IsCarried sort) piece (passing test piece_at)
  carried_reads = record {
    found = λ bs rest s h e. let f = passing_found IsPiece piece test piece_at piece_reads.found bs rest s h e in (f.0, is s f.1.0.1 f.1.1);
    again = λ s rest c.
        ap (λ o. o >>= λ x. then_some (test x.0) x) (piece_there s rest (omega (arith, carried_length sort s c)))
        ∙ ap (λ b. then_some b (s, rest)) (has s c);
  }

abbrev pub carried_request : Format (List ℕ)
carried_request = record { IsValue = IsCarried is_ordered_request; spelling = piece; at = passing is_request piece_at; reads = carried_reads is_ordered_request is_request request_is request_has }

abbrev pub carried_change : Format (List ℕ)
carried_change = record { IsValue = IsCarried is_view_change; spelling = piece; at = passing is_change piece_at; reads = carried_reads is_view_change is_change change_is change_has }

-- ---- batches

abbrev pub requests_parts : ℕ → Format (List (List ℕ))
requests_parts least = several_of (count_from least 16) carried_request

pub requests_reads : (least : ℕ) → Reads (requests_parts least).IsValue (requests_parts least).spelling (requests_at least)
unfolding requests_at
requests_reads least = (requests_parts least).reads

pub batch_found : (least : ℕ) → Found (IsBatch least) (λ b. b) (batch_text_at least)
unfolding batch_text_at
batch_found least =
    as_found (requests_parts least).IsValue (IsBatch least) (requests_parts least).spelling (λ b. b) pieces_spelling (requests_at least)
    (λ rs h. let c = and_parts (leb least (length rs)) (leb (length rs) 16) h.0.1 in (
      record { requests = rs; whole = refl; enough = leb-true _ _ c.0; few = leb-true _ _ c.1; each = h.1.0 },
      refl,
    ))
    (requests_reads least).found

pub batch_again : (least : ℕ) (text rest : List ℕ) → IsBatch least text → batch_text_at least (text ++ rest) ≡ Some (text, rest)
unfolding batch_text_at
batch_again least text rest b =
    let v : (requests_parts least).IsValue b.requests = ((omega (arith, b.few), and_from _ _ (le-leb _ _ b.enough) (le-leb _ _ b.few)), (b.each, refl)) in
    ap (λ t. read_as pieces_spelling (requests_at least) (t ++ rest)) b.whole
    ∙ as_again (requests_parts least).IsValue (IsBatch least) (requests_parts least).spelling (λ b. b) pieces_spelling (requests_at least) b.requests rest (requests_reads least).again v
    ∙ ap (λ t. Some (t, rest)) (sym b.whole)

abbrev pub batch : ℕ → Format (List ℕ)
batch least = record { IsValue = IsBatch least; spelling = λ b. b; at = batch_text_at least; reads = record { found = batch_found least; again = batch_again least } }

abbrev batches_parts : Format (List (List ℕ))
batches_parts = several_of (count_to 32) (batch 0)

batches_reads : Reads batches_parts.IsValue batches_parts.spelling batches_at
unfolding batches_at
batches_reads = batches_parts.reads

abbrev batches : Format (List (List ℕ))
batches = record { IsValue = batches_parts.IsValue; spelling = batches_parts.spelling; at = batches_at; reads = batches_reads }

-- ---- the messages

abbrev changes_parts : Format (List (List ℕ))
changes_parts = ascending_of sender_before (count_from 1 10) carried_change

changes_reads : Reads changes_parts.IsValue changes_parts.spelling changes_at
unfolding changes_at
changes_reads = changes_parts.reads

abbrev changes : Format (List (List ℕ))
changes = record { IsValue = changes_parts.IsValue; spelling = changes_parts.spelling; at = changes_at; reads = changes_reads }

abbrev new_view_parts : Format (ℕ × (List (List ℕ) × (ℕ × (List ℕ × List (List ℕ)))))
new_view_parts = both_of long (both_of changes (both_of long (both_of digest batches)))

abbrev make_new_view : ℕ × (List (List ℕ) × (ℕ × (List ℕ × List (List ℕ)))) → MessageData
make_new_view p = new_view (record { view = p.0; changes = p.1.0; start = p.1.1.0; root = p.1.1.1.0; batches = p.1.1.1.1 })

new_view_found : Found (IsOfType 0x47 IsMessage) fields_spelling new_view_at
unfolding new_view_at
new_view_found = made_found new_view_parts make_new_view (IsOfType 0x47 IsMessage)
    (λ p h. let c = and_parts (leb 1 (length p.1.0)) (leb (length p.1.0) 10) h.1.0.0.1 in (
      (
        refl,
        record {
          view = h.0;
          some = leb-true _ _ c.0;
          few = leb-true _ _ c.1;
          changes = h.1.0.1.0;
          ascend = h.1.0.1.1;
          start = h.1.1.0;
          root = h.1.1.1.0;
          count = leb-true _ _ h.1.1.1.1.0.1;
          batches = h.1.1.1.1.1.0;
        },
      ),
      refl,
    ))

new_view_again : (n : NewViewData) → IsNewView n → new_view_at (fields_spelling (new_view n)) ≡ Some (new_view n, [])
unfolding new_view_at
new_view_again n h =
    made_again new_view_parts make_new_view (n.view, (n.changes, (n.start, (n.root, n.batches))))
    (h.view, (((omega (arith, h.few), and_from _ _ (le-leb _ _ h.some) (le-leb _ _ h.few)), (h.changes, h.ascend)), (h.start, (h.root, ((omega (arith, h.count), le-leb _ _ h.count), (h.batches, refl))))))
    refl

abbrev pre_prepare_parts : Format (ℕ × (ℕ × List ℕ))
pre_prepare_parts = both_of long (both_of long (batch 1))

pre_prepare_found : Found (IsOfType 0x42 IsMessage) fields_spelling pre_prepare_at
unfolding pre_prepare_at
pre_prepare_found = made_found pre_prepare_parts (λ p. pre_prepare p.0 p.1.0 p.1.1) (IsOfType 0x42 IsMessage) (λ p h. ((refl, (h.0, h.1.0, h.1.1)), refl))

pre_prepare_again : (view number : ℕ) (text : List ℕ) → IsMessage (pre_prepare view number text) → pre_prepare_at (fields_spelling (pre_prepare view number text)) ≡ Some (pre_prepare view number text, [])
unfolding pre_prepare_at
pre_prepare_again view number text h = made_again pre_prepare_parts (λ p. pre_prepare p.0 p.1.0 p.1.1) (view, (number, text)) (h.0, (h.1, h.2)) refl

-- ---- all messages

pub to_message : (m : MessageData) → IsPlain m → IsMessage m
to_message (pre_prepare view number text) h = absurd h
to_message (new_view n) h = absurd h
to_message _ h = h

plain : (type : ℕ) (at : Reader MessageData) → Found (IsOfType type IsPlain) fields_spelling at → Found (IsOfType type IsMessage) fields_spelling at
plain type at reads bs rest m h e = let f = reads bs rest m h e in (f.0, (f.1.0, to_message m f.1.1))

arm : (type k : ℕ) (at : Reader MessageData) → Found (IsOfType k IsMessage) fields_spelling at → (bs rest : List ℕ) (m : MessageData) → AreBytes bs → (type ≡ k) × (at bs ≡ Some (m, rest)) → Takes bs (fields_spelling m) rest × IsOfType type IsMessage m
arm type k at reads bs rest m h e = let f = reads bs rest m h e.1 in (f.0, (e.0 ∙ f.1.0, f.1.1))

message_found : (type : ℕ) → Found (IsOfType type IsMessage) fields_spelling (message_at type)
unfolding message_at
message_found type bs rest m h e =
    let prepare_at : Reader MessageData = read_as (λ p. prepare p.0 p.1.0 p.1.1) vote_at in
    let commit_at : Reader MessageData = read_as (λ p. commit p.0 p.1.0 p.1.1) vote_at in
    let change_at : Reader MessageData = read_as view_change view_change_at in
    let last : Option (MessageData × List ℕ) = cond (eqb type 0x4b) (page_at bs) None in
    let after_9 : Option (MessageData × List ℕ) = cond (eqb type 0x4a) (meta_at bs) last in
    let after_8 : Option (MessageData × List ℕ) = cond (eqb type 0x49) (fetch_at bs) after_9 in
    let after_7 : Option (MessageData × List ℕ) = cond (eqb type 0x48) (reply_at bs) after_8 in
    let after_6 : Option (MessageData × List ℕ) = cond (eqb type 0x47) (new_view_at bs) after_7 in
    let after_5 : Option (MessageData × List ℕ) = cond (eqb type 0x46) (change_at bs) after_6 in
    let after_4 : Option (MessageData × List ℕ) = cond (eqb type 0x45) (checkpoint_at bs) after_5 in
    let after_3 : Option (MessageData × List ℕ) = cond (eqb type 0x44) (commit_at bs) after_4 in
    let after_2 : Option (MessageData × List ℕ) = cond (eqb type 0x43) (prepare_at bs) after_3 in
    let after_1 : Option (MessageData × List ℕ) = cond (eqb type 0x42) (pre_prepare_at bs) after_2 in
    elim (choice type 0x41 (request_at bs) after_1 (m, rest) e) [
      | inl k ↦ arm type 0x41 request_at (plain 0x41 request_at request_found) bs rest m h k
      | inr e ↦ elim (choice type 0x42 (pre_prepare_at bs) after_2 (m, rest) e) [
        | inl k ↦ arm type 0x42 pre_prepare_at pre_prepare_found bs rest m h k
        | inr e ↦ elim (choice type 0x43 (prepare_at bs) after_3 (m, rest) e) [
          | inl k ↦ arm type 0x43 prepare_at (plain 0x43 prepare_at prepare_found) bs rest m h k
          | inr e ↦ elim (choice type 0x44 (commit_at bs) after_4 (m, rest) e) [
            | inl k ↦ arm type 0x44 commit_at (plain 0x44 commit_at commit_found) bs rest m h k
            | inr e ↦ elim (choice type 0x45 (checkpoint_at bs) after_5 (m, rest) e) [
              | inl k ↦ arm type 0x45 checkpoint_at (plain 0x45 checkpoint_at checkpoint_found) bs rest m h k
              | inr e ↦ elim (choice type 0x46 (change_at bs) after_6 (m, rest) e) [
                | inl k ↦ arm type 0x46 change_at (plain 0x46 change_at view_change_found) bs rest m h k
                | inr e ↦ elim (choice type 0x47 (new_view_at bs) after_7 (m, rest) e) [
                  | inl k ↦ arm type 0x47 new_view_at new_view_found bs rest m h k
                  | inr e ↦ elim (choice type 0x48 (reply_at bs) after_8 (m, rest) e) [
                    | inl k ↦ arm type 0x48 reply_at (plain 0x48 reply_at reply_found) bs rest m h k
                    | inr e ↦ elim (choice type 0x49 (fetch_at bs) after_9 (m, rest) e) [
                      | inl k ↦ arm type 0x49 fetch_at (plain 0x49 fetch_at fetch_found) bs rest m h k
                      | inr e ↦ elim (choice type 0x4a (meta_at bs) last (m, rest) e) [
                        | inl k ↦ arm type 0x4a meta_at (plain 0x4a meta_at meta_found) bs rest m h k
                        | inr e ↦ let g = guard_holds (eqb type 0x4b) (page_at bs) (m, rest) e in arm type 0x4b page_at (plain 0x4b page_at page_found) bs rest m h (eqb-true type 0x4b g.0, g.1)
                      ]
                    ]
                  ]
                ]
              ]
            ]
          ]
        ]
      ]
    ]

message_again : (m : MessageData) → IsMessage m → message_at (message_type m) (fields_spelling m) ≡ Some (m, [])
unfolding message_at
message_again (request timestamp mode operation) h = request_again timestamp mode operation h.0 h.1
message_again (pre_prepare view number text) h = pre_prepare_again view number text h
message_again (prepare view number digest) h = prepare_again view number digest h
message_again (commit view number digest) h = commit_again view number digest h
message_again (checkpoint number root) h = checkpoint_again number root h
message_again (view_change c) h = view_change_again c h
message_again (new_view n) h = new_view_again n h
message_again (reply client timestamp kind number outcome) h = reply_again client timestamp kind number outcome h
message_again (fetch number level index) h = fetch_again number level index h
message_again (meta number level index digests) h = meta_again number level index digests h
message_again (page number index text) h = page_again number index text h

pub message_by_found : FoundBy message_by IsMessage
unfolding message_by
message_by_found type bs m h e =
    let a = all_found (IsOfType type IsMessage) fields_spelling (message_at type) (message_found type) bs m h e in
    (a.1.0, a.0, a.1.1)

pub message_by_again : AgainBy message_by IsMessage
unfolding message_by
message_by_again m h = ap whole_value (message_again m h)

-- ---- bodies and frames

pub body_of_found : (bs : List ℕ) (b : BodyData) → AreBytes bs → body_of bs ≡ Some b → SpellsBody bs b
unfolding body_of
body_of_found bs b h e = let f = body_found message_by IsMessage message_by_found bs b h e in record { valid = record { sender = f.1; message = f.2 }; spelled = f.0 }

pub body_of_again : (bs : List ℕ) (b : BodyData) → SpellsBody bs b → body_of bs ≡ Some b
unfolding body_of
body_of_again bs b s = ap body_of s.spelled ∙ body_again message_by IsMessage message_by_again b s.valid.sender s.valid.message

pub frame_of_found : (bs : List ℕ) (f : FrameData) → AreBytes bs → frame_read bs ≡ Some f → SpellsFrame bs f
unfolding frame_read
frame_of_found bs f h e = frame_found message_by IsMessage message_by_found bs f h e

pub frame_of_again : (bs : List ℕ) (f : FrameData) → SpellsFrame bs f → frame_read bs ≡ Some f
unfolding frame_read
frame_of_again bs f s = ap frame_read s.spelled ∙ frame_again message_by IsMessage message_by_again f s.valid

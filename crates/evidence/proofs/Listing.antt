-- The texts whose digests must differ stand in a short list.
use Rattle.std.proofs.Common.{◌≡◌, ℕ, zero, suc, ◌+◌, ◌-◌, ◌*◌, ◌≤◌, ◌<◌, inl, inr, List, [], ◌∷◌, length, map, refl, sym, ap, ap₂, subst, arith, Option, Some, None}
use Rattle.std.specs.List.{concat, range_with_len}
use Rattle.std.specs.Option.{option_map_or}
use Rattle.std.proofs.lemmas.List.{length-append}
use Rattle.std.proofs.lemmas.List.FromFn.{length-map-range_with_len}
use Rattle.partition_tree.specs.Digests.{page_digests}
use Rattle.wire_format.specs.Messages.{BodyData as Body, MessageData as Message, new_view as NewView}
use Rattle.wire_format.specs.Spelling.{IsMessage}
use Rattle.wire_format.specs.Words.{said}
use Rattle.wire_format.proofs.Saying.{says_what_is_spelled}
use Rattle.protocol.specs.System.Configuration.{Configuration}
use Rattle.protocol.specs.System.Trace.{Entry, history_of, Once, Has}
use Rattle.protocol.specs.System.Trace.Entry.{Got, Executed, Installed, Sent}
use Rattle.protocol.specs.Replica.Selection.{null_batch}
use Rattle.protocol.specs.Replica.State.{State, opening, after_batches, page_text, all_pages, pages_of}
use Rattle.protocol.specs.Replica.Transfers.{in_place}
use Rattle.protocol.specs.Space.Linear.{reached}
use Rattle.protocol.specs.System.Texts.{IsUnder, EntryHasBatch, EntryHasPart, InstallsOver, batches_of, parts_of, first_batch, AreFirstBatches}
use Rattle.protocol.specs.System.Texts.IsText.{null, batch, part, page_of, under, installed}
use Rattle.protocol.specs.System.Texts.IsUnder.{inner, top}
use Rattle.protocol.specs.Laws.Histories.{ExecutesBatch}
use Rattle.evidence.specs.Listed.{unders, state_texts, state_at, said_texts, texts_at, texts_added, TextsAreListed, ListsAreShort}
use Rattle.protocol.proofs.Words.Elements.{has_left, has_right, has_mapped}
use Rattle.protocol.proofs.Agreement.Firsts.{first_executes}

-- ---- lists of numbers

has_number : (P : ℕ → Type 0) (a n i : ℕ) → a ≤ i → i < a + n → P i → Has P (range_with_len a n)
has_number P a zero i l m p = absurd (omega arith)
has_number P a (suc n) i l m p = go (i - a) refl (has_number P (a + 1) n i)
  where
    go : (d : ℕ) → i - a ≡ d → (a + 1 ≤ i → i < a + 1 + n → P i → Has P (range_with_len (a + 1) n)) → Has P (range_with_len a (suc n))
    go zero e below = let same : i ≡ a = omega arith in inl (subst P same p)
    go (suc d) e below = let q : a + 1 ≤ i = omega arith in let r : i < a + 1 + n = omega arith in inr (below q r p)

-- ---- the texts of a state

has_under : (page : ℕ → List ℕ) (text : List ℕ) → IsUnder page text → Has (λ x. x ≡ text) (unders page)
has_under page _ top = inl refl
has_under page _ (inner j l) =
    let low : 0 ≤ j = omega arith in
    inr (has_mapped (λ x. x ≡ concat (page_digests (all_pages page) j)) (λ i. concat (page_digests (all_pages page) i)) (range_with_len 0 32)
    (has_number (λ i. concat (page_digests (all_pages page) i) ≡ concat (page_digests (all_pages page) j)) 0 32 j low (omega arith) refl))

has_page : (st : State) (i : ℕ) → i < 1024 → Has (λ x. x ≡ page_text st i) (pages_of st)
unfolding all_pages
has_page st i l =
    let low : 0 ≤ i = omega arith in
    let high : i < 0 + 1024 = omega arith in
    has_mapped (λ x. x ≡ page_text st i) (page_text st) (range_with_len 0 1024) (has_number (λ j. page_text st j ≡ page_text st i) 0 1024 i low high refl)

page_of_state : (st : State) (i : ℕ) → i < 1024 → Has (λ x. x ≡ page_text st i) (state_texts st)
page_of_state st i l = has_left (λ x. x ≡ page_text st i) (pages_of st) (unders (page_text st)) (has_page st i l)

under_state : (st : State) (text : List ℕ) → IsUnder (page_text st) text → Has (λ x. x ≡ text) (state_texts st)
under_state st text u = has_right (λ x. x ≡ text) (pages_of st) (unders (page_text st)) (has_under (page_text st) text u)

-- ---- what an entry adds stands in the list

once_listed : (c : Configuration) (trace : List Entry) (P : List Entry → Entry → Type 0) (text : List ℕ) → ((past : List Entry) (e : Entry) → P past e → Has (λ x. x ≡ text) (texts_at c trace past e))
    → (xs : List Entry) → Once P xs → Has (λ x. x ≡ text) (texts_added c trace xs)
once_listed c trace P text f [] h = absurd h
once_listed c trace P text f (e ∷ past) (inl h) = has_left (λ x. x ≡ text) (texts_at c trace past e) (texts_added c trace past) (f past e h)
once_listed c trace P text f (e ∷ past) (inr h) = has_right (λ x. x ≡ text) (texts_at c trace past e) (texts_added c trace past) (once_listed c trace P text f past h)

first_listed : (c : Configuration) (trace : List Entry) (text : List ℕ) → Has (λ x. x ≡ text) (null_batch ∷ state_texts opening) → (xs : List Entry) → Has (λ x. x ≡ text) (texts_added c trace xs)
first_listed c trace text h [] = h
first_listed c trace text h (e ∷ past) = has_right (λ x. x ≡ text) (texts_at c trace past e) (texts_added c trace past) (first_listed c trace text h past)

-- ---- the states of the batches that were executed first

same_batches : (c : Configuration) (trace : List Entry) (k : ℕ) (batches : List (List ℕ)) → AreFirstBatches c trace k batches
    → map (λ i. option_map_or (λ batch. batch) (first_batch c trace i) null_batch) (range_with_len k (length batches)) ≡ batches
same_batches c trace k [] h = refl
same_batches c trace k (b ∷ batches) h =
    ap₂ (λ (x : List ℕ) (xs : List (List ℕ)). x ∷ xs) (ap (λ (o : Option (List ℕ)). option_map_or (λ batch. batch) o null_batch) h.0)
    (same_batches c trace (k + 1) batches h.1)

same_state : (c : Configuration) (trace : List Entry) (batches : List (List ℕ)) (k : ℕ) → AreFirstBatches c trace 1 batches → length batches ≡ k → state_at c trace k ≡ after_batches c opening batches
same_state c trace batches k h n =
    subst (λ (m : ℕ). state_at c trace m ≡ after_batches c opening batches) n (ap (after_batches c opening) (same_batches c trace 1 batches h))

last_first : (c : Configuration) (trace : List Entry) (k : ℕ) (b : List ℕ) (batches : List (List ℕ)) → AreFirstBatches c trace k (b ∷ batches) → (x : List ℕ) × (first_batch c trace (k + length batches) ≡ Some x)
last_first c trace k b [] h = let e : k ≡ k + 0 = omega arith in (b, subst (λ (i : ℕ). first_batch c trace i ≡ Some b) e h.0)
last_first c trace k b (d ∷ batches) h =
    let s = last_first c trace (k + 1) d batches h.1 in
    (s.0, subst (λ (i : ℕ). first_batch c trace i ≡ Some s.0) (omega arith) s.1)

state_listed : (c : Configuration) (trace : List Entry) (batches : List (List ℕ)) (text : List ℕ) → AreFirstBatches c trace 1 batches
    → Has (λ x. x ≡ text) (state_texts (after_batches c opening batches)) → Has (λ x. x ≡ text) (texts_added c trace trace)
state_listed c trace [] text h has = first_listed c trace text (inr has) trace
state_listed c trace (b ∷ batches) text h has =
    let s = last_first c trace 1 b batches h in
    once_listed c trace (ExecutesBatch c (1 + length batches) s.0) text here trace (first_executes c (1 + length batches) s.0 trace s.1)
  where
    here : (past : List Entry) (e : Entry) → ExecutesBatch c (1 + length batches) (last_first c trace 1 b batches h).0 past e → Has (λ x. x ≡ text) (texts_at c trace past e)
    here past (Executed r number x) g =
        subst (λ (st : State). Has (λ x. x ≡ text) (state_texts st)) (sym (same_state c trace (b ∷ batches) number h (omega arith))) has
    here past _ g = absurd g

-- ---- each text is listed

has_said : (texts : Message → List (List ℕ)) (text bytes : List ℕ) (body : Body) → said bytes ≡ Some body → Has (λ x. x ≡ text) (texts body.message) → Has (λ x. x ≡ text) (said_texts texts bytes)
has_said texts text bytes body says has = subst (λ (o : Option Body). Has (λ x. x ≡ text) (option_map_or (λ y. texts y.message) o [])) (sym says) has

batch_here : (c : Configuration) (trace : List Entry) (text : List ℕ) (past : List Entry) (e : Entry) → EntryHasBatch text past e → Has (λ x. x ≡ text) (texts_at c trace past e)
batch_here c trace text past (Got p bytes) (body, says, has) =
    has_left (λ x. x ≡ text) (said_texts batches_of bytes) (said_texts parts_of bytes) (has_said batches_of text bytes body says has)
batch_here c trace text past (Sent p bytes) (body, says, has) = has_said batches_of text bytes body says has
batch_here c trace text past _ h = absurd h

part_here : (c : Configuration) (trace : List Entry) (text : List ℕ) (past : List Entry) (e : Entry) → EntryHasPart text past e → Has (λ x. x ≡ text) (texts_at c trace past e)
part_here c trace text past (Got p bytes) (body, says, has) =
    has_right (λ x. x ≡ text) (said_texts batches_of bytes) (said_texts parts_of bytes) (has_said parts_of text bytes body says has)
part_here c trace text past (Sent p bytes) h = absurd h
part_here c trace text past _ h = absurd h

installed_here : (c : Configuration) (trace : List Entry) (batches : List (List ℕ)) (text : List ℕ) → AreFirstBatches c trace 1 batches → (past : List Entry) (e : Entry) → InstallsOver c batches text past e
    → Has (λ x. x ≡ text) (texts_at c trace past e)
installed_here c trace batches text h past (Installed r k root) (correct, n, u) =
    subst (λ (st : State). Has (λ x. x ≡ text) (unders (in_place c r k (history_of r past) st))) (sym (same_state c trace batches (reached past r) h n))
    (has_under (in_place c r k (history_of r past) (after_batches c opening batches)) text u)
installed_here c trace batches text h past (Got x y) g = absurd g
installed_here c trace batches text h past _ g = absurd g

pub texts_are_listed : TextsAreListed
texts_are_listed c trace _ null = first_listed c trace null_batch (inl refl) trace
texts_are_listed c trace text (batch _ h) = once_listed c trace (EntryHasBatch text) text (batch_here c trace text) trace h
texts_are_listed c trace text (part _ h) = once_listed c trace (EntryHasPart text) text (part_here c trace text) trace h
texts_are_listed c trace _ (page_of batches i l h) =
    state_listed c trace batches (page_text (after_batches c opening batches) i) h (page_of_state (after_batches c opening batches) i l)
texts_are_listed c trace text (under batches _ h u) = state_listed c trace batches text h (under_state (after_batches c opening batches) text u)
texts_are_listed c trace text (installed batches _ h u) =
    once_listed c trace (InstallsOver c batches text) text (installed_here c trace batches text h) trace u

-- ---- the list is short

pub unders_count : (page : ℕ → List ℕ) → length (unders page) ≡ 33
unders_count page = ap suc (length-map-range_with_len (λ j. concat (page_digests (all_pages page) j)) 0 32)

pages_count : (page : ℕ → List ℕ) → length (all_pages page) ≡ 1024
unfolding all_pages
pages_count page = length-map-range_with_len page 0 1024

state_count : (st : State) → length (state_texts st) ≡ 1057
state_count st =
    let a = length-append (pages_of st) (unders (page_text st)) in
    let p = pages_count (page_text st) in
    let u = unders_count (page_text st) in
    omega arith

message_count : (m : Message) → IsMessage m → length (batches_of m) + length (parts_of m) ≤ 32
message_count (NewView new) h = let n = h.count in omega arith
message_count _ h = omega arith

frame_count : (bytes : List ℕ) → length (said_texts batches_of bytes) + length (said_texts parts_of bytes) ≤ 32
frame_count bytes = go (said bytes) refl
  where
    go : (o : Option Body) → said bytes ≡ o → length (option_map_or (λ body. batches_of body.message) o []) + length (option_map_or (λ body. parts_of body.message) o []) ≤ 32
    go None says = omega arith
    go (Some body) says =
        let w = (says_what_is_spelled bytes body).0 says in
        message_count body.message (subst (λ (b : Body). IsMessage b.message) w.2 w.1.valid.message)

entry_count : (c : Configuration) (trace past : List Entry) (e : Entry) → length (texts_at c trace past e) ≤ 1057
entry_count c trace past (Got p bytes) =
    let a = length-append (said_texts batches_of bytes) (said_texts parts_of bytes) in let f = frame_count bytes in omega arith
entry_count c trace past (Sent p bytes) = let f = frame_count bytes in omega arith
entry_count c trace past (Executed r k b) = let s = state_count (state_at c trace k) in omega arith
entry_count c trace past (Installed r k root) =
    let u = unders_count (in_place c r k (history_of r past) (state_at c trace (reached past r))) in omega arith
entry_count c trace past _ = omega arith

pub first_count : (c : Configuration) (trace : List Entry) → length (texts_added c trace []) ≡ 1058
first_count c trace = ap suc (state_count opening)

from_count : (c : Configuration) (trace xs : List Entry) → length (texts_added c trace xs) ≤ 1057 * length xs + 1058
from_count c trace [] = let n = first_count c trace in omega arith
from_count c trace (e ∷ past) =
    let a = length-append (texts_at c trace past e) (texts_added c trace past) in
    let h = entry_count c trace past e in
    let below = from_count c trace past in
    omega arith

pub lists_are_short : ListsAreShort
lists_are_short c trace = from_count c trace trace

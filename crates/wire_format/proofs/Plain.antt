-- Laws of messages that carry no frames.
use Rattle.std.proofs.Common.{◌≡◌, ℕ, nat_le, ◌^◌, ◌<◌, ◌≤◌, Bool, true, false, List, [], ◌∷◌, ◌++◌, length, Some}
use Rattle.std.proofs.Common.{IsTrue, ap, sym, refl, ◌∙◌, arith, append_assoc, append-nil}
use Rattle.std.proofs.lemmas.Bool.{eqb-true, leb-true, le-leb}
use Rattle.std.specs.Bool.{then_some}
use lib.Dec.{eqb}
use Rattle.tuple_tree.specs.Values.{AreBytes}
use Rattle.tuple_codec.specs.Operations.{Operation, IsOperation, Outcome, IsOutcome}
use Rattle.tuple_codec.specs.Spelling.{operation_spelling, outcome_spelling}
use Rattle.tuple_tree.specs.Reading.{◌>>=◌, read_as}
use Rattle.tuple_codec.specs.Reading.{operation_at, outcome_at}
use Rattle.tuple_tree.proofs.Readers.{Takes, Found, bind_some, parts, guard_holds, moved}
use Rattle.tuple_codec.proofs.OperationLaws.{operation_reads, outcome_reads}
use Rattle.tuple_codec.proofs.Grammar.{Reads}
use Rattle.terms.specs.declared.order.Mode.{Mode}
use Rattle.terms.specs.declared.order.Mode.TheVariants as modes
use Rattle.terms.specs.declared.state.Level.{Level}
use Rattle.terms.specs.declared.state.Level.TheVariants as levels
use Rattle.wire_format.specs.Lists.{Each, each_spelling}
use Rattle.wire_format.specs.Messages.{ViewChangeData, MessageData, request, pre_prepare, prepare, commit, checkpoint}
use Rattle.wire_format.specs.Messages.{view_change, new_view, reply, fetch, meta, page}
use Rattle.wire_format.specs.Spelling.{message_type, level_byte, fields_spelling, last_index, has_children, IsDigest}
use Rattle.wire_format.specs.Spelling.{IsPlain, is_ordered_request, is_view_change}
use Rattle.wire_format.specs.Reading.{passing, more_at, anyhow, whole_value, digest_at, request_at, vote_at}
use Rattle.wire_format.specs.Reading.{checkpoint_at, client_at, reply_at, place_at, fetch_at, digest_list_at, meta_at}
use Rattle.wire_format.specs.Reading.{page_at, request_by, view_change_by}
use Rattle.wire_format.proofs.Forms.{Format, both_of, passing_of, passing_found, more_found, more_again, anyhow_grows}
use Rattle.wire_format.proofs.Forms.{as_found, as_again}
use Rattle.wire_format.proofs.Parts.{long, word, digest, digest_reads, mode, level, change}
use Rattle.wire_format.proofs.Framing.{FoundBy, AgainBy, all_found}

-- A message of this type that may be said.
abbrev pub IsOfType : ℕ → (MessageData → Type 0) → MessageData → Type 0
IsOfType type IsSaid m = (type ≡ message_type m) × IsSaid m

-- from the format of the parts
pub made_found : {A : Type 0} (f : Format A) (make : A → MessageData) (Is : MessageData → Type 0) → ((x : A) → f.IsValue x → Is (make x) × (f.spelling x ≡ fields_spelling (make x))) → Found Is fields_spelling (read_as make f.at)
made_found f make Is law = as_found f.IsValue Is f.spelling fields_spelling make f.at law f.reads.found

pub made_again : {A : Type 0} (f : Format A) (make : A → MessageData) (x : A) → f.IsValue x → f.spelling x ≡ fields_spelling (make x) → read_as make f.at (fields_spelling (make x)) ≡ Some (make x, [])
made_again f make x h s =
    ap (read_as make f.at) (sym s ∙ sym (append-nil (f.spelling x))) ∙ as_again f.IsValue IsPlain f.spelling fields_spelling make f.at x [] f.reads.again h

-- ---- the parts

abbrev pub operation : Format Operation
operation = record { IsValue = IsOperation; spelling = operation_spelling; at = operation_at; reads = operation_reads }

abbrev pub outcome : Format Outcome
outcome = record { IsValue = IsOutcome; spelling = outcome_spelling; at = outcome_at; reads = outcome_reads }

abbrev pub request_parts : Format (ℕ × (Mode × Operation))
request_parts = both_of long (both_of mode operation)

abbrev pub vote_parts : Format (ℕ × (ℕ × List ℕ))
vote_parts = both_of long (both_of long digest)

abbrev pub client_parts : Format ℕ
client_parts = passing_of (λ n. nat_le 256 n) word

pub client_reads : Reads client_parts.IsValue client_parts.spelling client_at
unfolding client_at
client_reads = client_parts.reads

abbrev client : Format ℕ
client = record { IsValue = client_parts.IsValue; spelling = client_parts.spelling; at = client_at; reads = client_reads }

abbrev reply_parts : Format (ℕ × (ℕ × (Mode × (ℕ × Outcome))))
reply_parts = both_of client (both_of long (both_of mode (both_of long outcome)))

abbrev place_parts : Format (ℕ × (Level × ℕ))
place_parts = passing_of (λ p. nat_le p.1.1 (last_index p.1.0)) (both_of long (both_of level word))

place_reads : Reads place_parts.IsValue place_parts.spelling place_at
unfolding place_at
place_reads = place_parts.reads

abbrev place : Format (ℕ × (Level × ℕ))
place = record { IsValue = place_parts.IsValue; spelling = place_parts.spelling; at = place_at; reads = place_reads }

abbrev AreDigests : List (List ℕ) → Type 0
AreDigests ds = (length ds ≡ 32) × Each IsDigest ds

abbrev digests_spelling : List (List ℕ) → List ℕ
digests_spelling ds = each_spelling (λ d. d) ds

-- so many digests
digests_found : (n : ℕ) (bs rest : List ℕ) (ds : List (List ℕ)) → AreBytes bs → digest_list_at n bs ≡ Some (ds, rest) → Takes bs (digests_spelling ds) rest × ((length ds ≡ n) × Each IsDigest ds)
unfolding digest_list_at
digests_found n bs rest ds h e =
    let r = more_found IsDigest (λ d. d) digest_at anyhow (λ ds. true) anyhow_grows digest_reads.found n [] ds bs rest h tt refl e in
    (record { whole = r.whole; bytes = r.bytes }, (omega (arith, r.number), r.each))

digests_again : (n : ℕ) (ds : List (List ℕ)) (rest : List ℕ) → length ds ≡ n → Each IsDigest ds → digest_list_at n (digests_spelling ds ++ rest) ≡ Some (ds, rest)
unfolding digest_list_at
digests_again n ds rest l h =
    ap (λ n. more_at digest_at anyhow n [] (digests_spelling ds ++ rest)) (sym l)
    ∙ more_again IsDigest (λ d. d) digest_at anyhow (λ ds. true) anyhow_grows digest_reads.again ds [] rest h refl

digests_reads : Reads AreDigests digests_spelling (digest_list_at 32)
digests_reads = record { found = λ bs rest ds h e. digests_found 32 bs rest ds h e; again = λ ds rest h. digests_again 32 ds rest h.0 h.1 }

abbrev digests : Format (List (List ℕ))
digests = record { IsValue = AreDigests; spelling = digests_spelling; at = digest_list_at 32; reads = digests_reads }

abbrev meta_parts : Format ((ℕ × (Level × ℕ)) × List (List ℕ))
meta_parts = both_of (passing_of (λ p. has_children p.1.0) place) digests

-- ---- the messages

pub request_found : Found (IsOfType 0x41 IsPlain) fields_spelling request_at
unfolding request_at
request_found = made_found request_parts (λ p. request p.0 p.1.0 p.1.1) (IsOfType 0x41 IsPlain) (λ p h. ((refl, (h.0, h.1.1)), refl))

pub request_again : (timestamp : ℕ) (mode : Mode) (o : Operation) → timestamp < 2 ^ 64 → IsOperation o → request_at (fields_spelling (request timestamp mode o)) ≡ Some (request timestamp mode o, [])
unfolding request_at
request_again timestamp mode o h k = made_again request_parts (λ p. request p.0 p.1.0 p.1.1) (timestamp, (mode, o)) (h, (tt, k)) refl

vote_reads : Reads vote_parts.IsValue vote_parts.spelling vote_at
unfolding vote_at
vote_reads = vote_parts.reads

abbrev vote : Format (ℕ × (ℕ × List ℕ))
vote = record { IsValue = vote_parts.IsValue; spelling = vote_parts.spelling; at = vote_at; reads = vote_reads }

pub prepare_found : Found (IsOfType 0x43 IsPlain) fields_spelling (read_as (λ p. prepare p.0 p.1.0 p.1.1) vote_at)
prepare_found = made_found vote (λ p. prepare p.0 p.1.0 p.1.1) (IsOfType 0x43 IsPlain) (λ p h. ((refl, (h.0, h.1.0, h.1.1)), refl))

pub prepare_again : (view number : ℕ) (d : List ℕ) → IsPlain (prepare view number d) → read_as (λ p. prepare p.0 p.1.0 p.1.1) vote_at (fields_spelling (prepare view number d)) ≡ Some (prepare view number d, [])
prepare_again view number d h = made_again vote (λ p. prepare p.0 p.1.0 p.1.1) (view, (number, d)) (h.0, (h.1, h.2)) refl

pub commit_found : Found (IsOfType 0x44 IsPlain) fields_spelling (read_as (λ p. commit p.0 p.1.0 p.1.1) vote_at)
commit_found = made_found vote (λ p. commit p.0 p.1.0 p.1.1) (IsOfType 0x44 IsPlain) (λ p h. ((refl, (h.0, h.1.0, h.1.1)), refl))

pub commit_again : (view number : ℕ) (d : List ℕ) → IsPlain (commit view number d) → read_as (λ p. commit p.0 p.1.0 p.1.1) vote_at (fields_spelling (commit view number d)) ≡ Some (commit view number d, [])
commit_again view number d h = made_again vote (λ p. commit p.0 p.1.0 p.1.1) (view, (number, d)) (h.0, (h.1, h.2)) refl

pub checkpoint_found : Found (IsOfType 0x45 IsPlain) fields_spelling checkpoint_at
unfolding checkpoint_at
checkpoint_found = made_found (both_of long digest) (λ p. checkpoint p.0 p.1) (IsOfType 0x45 IsPlain) (λ p h. ((refl, h), refl))

pub checkpoint_again : (number : ℕ) (root : List ℕ) → IsPlain (checkpoint number root) → checkpoint_at (fields_spelling (checkpoint number root)) ≡ Some (checkpoint number root, [])
unfolding checkpoint_at
checkpoint_again number root h = made_again (both_of long digest) (λ p. checkpoint p.0 p.1) (number, root) h refl

pub view_change_found : Found (IsOfType 0x46 IsPlain) fields_spelling (read_as view_change change.at)
view_change_found = made_found change (λ c. view_change c) (IsOfType 0x46 IsPlain) (λ c h. ((refl, h), refl))

pub view_change_again : (c : ViewChangeData) → IsPlain (view_change c) → read_as view_change change.at (fields_spelling (view_change c)) ≡ Some (view_change c, [])
view_change_again c h = made_again change (λ c. view_change c) c h refl

pub reply_found : Found (IsOfType 0x48 IsPlain) fields_spelling reply_at
unfolding reply_at
reply_found = made_found reply_parts (λ p. reply p.0 p.1.0 p.1.1.0 p.1.1.1.0 p.1.1.1.1) (IsOfType 0x48 IsPlain)
    (λ p h. ((refl, (leb-true _ _ h.0.1, h.0.0, h.1.0, h.1.1.1.0, h.1.1.1.1)), refl))

pub reply_again : (client timestamp : ℕ) (kind : Mode) (number : ℕ) (o : Outcome) → IsPlain (reply client timestamp kind number o) → reply_at (fields_spelling (reply client timestamp kind number o)) ≡ Some (reply client timestamp kind number o, [])
unfolding reply_at
reply_again client timestamp kind number o h =
    made_again reply_parts (λ p. reply p.0 p.1.0 p.1.1.0 p.1.1.1.0 p.1.1.1.1) (client, (timestamp, (kind, (number, o)))) ((h.1, le-leb _ _ h.0), (h.2, (tt, (h.3, h.4)))) refl

pub fetch_found : Found (IsOfType 0x49 IsPlain) fields_spelling fetch_at
unfolding fetch_at
fetch_found = made_found place (λ p. fetch p.0 p.1.0 p.1.1) (IsOfType 0x49 IsPlain) (λ p h. ((refl, (h.0.0, leb-true _ _ h.1)), refl))

last_index_bound : (l : Level) → last_index l ≤ 1023
last_index_bound levels.Root = omega arith
last_index_bound _ = omega arith

place_valid : (number : ℕ) (l : Level) (index : ℕ) → number < 2 ^ 64 → index ≤ last_index l → place.IsValue (number, (l, index))
place_valid number l index h k = ((h, (tt, omega (arith, k, last_index_bound l))), le-leb _ _ k)

pub fetch_again : (number : ℕ) (l : Level) (index : ℕ) → IsPlain (fetch number l index) → fetch_at (fields_spelling (fetch number l index)) ≡ Some (fetch number l index, [])
unfolding fetch_at
fetch_again number l index h = made_again place (λ p. fetch p.0 p.1.0 p.1.1) (number, (l, index)) (place_valid number l index h.0 h.1) refl

meta_spelled : (number : List ℕ) (b : ℕ) (index ds : List ℕ) → (number ++ b ∷ index) ++ ds ≡ number ++ b ∷ (index ++ ds)
meta_spelled number b index ds = append_assoc number (b ∷ index) ds

pub meta_found : Found (IsOfType 0x4a IsPlain) fields_spelling meta_at
unfolding meta_at
meta_found = made_found meta_parts (λ p. meta p.0.0 p.0.1.0 p.0.1.1 p.1) (IsOfType 0x4a IsPlain)
    (λ p h. ((refl, (h.0.0.0.0, h.0.1, leb-true _ _ h.0.0.1, h.1.0, h.1.1)), meta_spelled (long.spelling p.0.0) (level_byte p.0.1.0) (word.spelling p.0.1.1) (digests_spelling p.1)))

pub meta_again : (number : ℕ) (l : Level) (index : ℕ) (ds : List (List ℕ)) → IsPlain (meta number l index ds) → meta_at (fields_spelling (meta number l index ds)) ≡ Some (meta number l index ds, [])
unfolding meta_at
meta_again number l index ds h =
    made_again meta_parts (λ p. meta p.0.0 p.0.1.0 p.0.1.1 p.1) ((number, (l, index)), ds) ((place_valid number l index h.0 h.2, h.1), (h.3, h.4))
    (meta_spelled (long.spelling number) (level_byte l) (word.spelling index) (digests_spelling ds))

abbrev page_parts : Format (ℕ × ℕ)
page_parts = both_of long (passing_of (λ n. nat_le n 1023) word)

pub page_found : Found (IsOfType 0x4b IsPlain) fields_spelling page_at
unfolding page_at
page_found bs rest m h e =
    let k = bind_some (page_parts.at bs) (λ p. Some (page p.0.0 p.0.1 p.1, [])) (m, rest) e in
    let f = page_parts.reads.found bs k.0.1 k.0.0 h k.1 in
    let p = parts k.2 in
    let none : AreBytes [] = λ i. omega arith in
    moved (IsOfType 0x4b IsPlain) fields_spelling bs (
      record { whole = f.0.whole ∙ append_assoc (long.spelling k.0.0.0) (word.spelling k.0.0.1) k.0.1 ∙ sym (append-nil (long.spelling k.0.0.0 ++ (word.spelling k.0.0.1 ++ k.0.1))); bytes = none },
      (refl, (f.1.0, leb-true _ _ f.1.1.1, f.0.bytes)),
    ) p.0 p.1

pub page_again : (number index : ℕ) (text : List ℕ) → IsPlain (page number index text) → page_at (fields_spelling (page number index text)) ≡ Some (page number index text, [])
unfolding page_at
page_again number index text h =
    let v : page_parts.IsValue (number, index) = (h.0, (omega (arith, h.1), le-leb _ _ h.1)) in
    ap page_at (sym (append_assoc (long.spelling number) (word.spelling index) text))
    ∙ ap (λ o. o >>= λ p. Some (page p.0.0 p.0.1 p.1, [])) (page_parts.reads.again (number, index) text v)

-- ---- messages that other messages carry

abbrev pub IsSort : (MessageData → Bool) → MessageData → Type 0
IsSort sort m = IsPlain m × IsTrue (sort m)

pub request_by_found : FoundBy request_by (IsSort is_ordered_request)
request_by_found type bs m h e =
    let g = guard_holds (eqb type 0x41) (whole_value (passing is_ordered_request request_at bs)) m e in
    let a = all_found (λ m. IsOfType 0x41 IsPlain m × (is_ordered_request m ≡ true)) fields_spelling (passing is_ordered_request request_at) (passing_found (IsOfType 0x41 IsPlain) fields_spelling is_ordered_request request_at request_found) bs m h g.1 in
    (eqb-true type 0x41 g.0 ∙ a.1.0.0, a.0, (a.1.0.1, a.1.1))

pub request_by_again : AgainBy request_by (IsSort is_ordered_request)
request_by_again (request timestamp modes.Ordered o) h = ap (λ r. whole_value (r >>= λ x. then_some (is_ordered_request x.0) x)) (request_again timestamp modes.Ordered o h.0.0 h.0.1)
request_by_again (pre_prepare view number batch) h = absurd h.0
request_by_again (new_view n) h = absurd h.0
request_by_again _ h = absurd (let e : false ≡ true = h.1 in let g : ⊥ = cc in g)

is_change_type : (m : MessageData) → 0x46 ≡ message_type m → is_view_change m ≡ true
is_change_type (view_change c) e = refl
is_change_type _ e = absurd (omega arith)

pub change_by_found : FoundBy view_change_by (IsSort is_view_change)
change_by_found type bs m h e =
    let g = guard_holds (eqb type 0x46) (whole_value (read_as view_change change.at bs)) m e in
    let a = all_found (IsOfType 0x46 IsPlain) fields_spelling (read_as view_change change.at) view_change_found bs m h g.1 in
    (eqb-true type 0x46 g.0 ∙ a.1.0, a.0, (a.1.1, is_change_type m a.1.0))

pub change_by_again : AgainBy view_change_by (IsSort is_view_change)
change_by_again (view_change c) h = ap whole_value (view_change_again c h.0)
change_by_again (pre_prepare view number batch) h = absurd h.0
change_by_again (new_view n) h = absurd h.0
change_by_again _ h = absurd (let e : false ≡ true = h.1 in let g : ⊥ = cc in g)

-- Events and groups are told by their bytes.
use Rattle.std.proofs.Common.{◌≡◌, ℕ, ◌+◌, ◌<◌, ◌^◌, List, [], ◌∷◌, ◌++◌, length, take, drop, refl, sym, ◌∙◌, ap, arith, append_assoc, length-append}
use Rattle.std.specs.Int.{w32, w64, to_be_bytes, from_be_bytes}
use Rattle.std.proofs.lemmas.List.{append-nil, take_at, drop_at, append_cancel_left}
use Rattle.std.proofs.lemmas.Nat.{from_be_bytes-to_be_bytes_4, from_be_bytes-to_be_bytes_8}
use Rattle.sqlite_disk.specs.Digest.{digest}
use Rattle.event_log.specs.Events.{event_bytes, events_bytes}
use Rattle.event_log.specs.Groups.{body_bytes, framed_bytes, group_bytes, IsGroup}
use Rattle.event_log.specs.declared.owner.Owner.{Owner}

-- two parts of one length
pub same_parts : (a b u v : List ℕ) → length a ≡ length b → a ++ u ≡ b ++ v → (a ≡ b) × (u ≡ v)
same_parts a b u v len e = (
  sym (take_at a u (length b) len) ∙ ap (λ (l : List ℕ). take (length b) l) e ∙ take_at b v (length b) refl,
  sym (drop_at a u (length b) len) ∙ ap (λ (l : List ℕ). drop (length b) l) e ∙ drop_at b v (length b) refl,
)

-- four bytes of one number are those of no other
pub four_split : (a b : ℕ) (u v : List ℕ) → a < 2 ^ 32 → b < 2 ^ 32 → to_be_bytes w32 a ++ u ≡ to_be_bytes w32 b ++ v → (a ≡ b) × (u ≡ v)
four_split a b u v l m e =
    let s = same_parts (to_be_bytes w32 a) (to_be_bytes w32 b) u v refl e in
    (sym (from_be_bytes-to_be_bytes_4 a l) ∙ ap (from_be_bytes w32) s.0 ∙ from_be_bytes-to_be_bytes_4 b m, s.1)

-- nor are eight bytes
pub eight_split : (a b : ℕ) (u v : List ℕ) → a < 2 ^ 64 → b < 2 ^ 64 → to_be_bytes w64 a ++ u ≡ to_be_bytes w64 b ++ v → (a ≡ b) × (u ≡ v)
eight_split a b u v l m e =
    let s = same_parts (to_be_bytes w64 a) (to_be_bytes w64 b) u v refl e in
    (sym (from_be_bytes-to_be_bytes_8 a l) ∙ ap (from_be_bytes w64) s.0 ∙ from_be_bytes-to_be_bytes_8 b m, s.1)

-- ---- events

pub event_spread : (event rest : List ℕ) → event_bytes event ++ rest ≡ to_be_bytes w32 (length event) ++ (event ++ rest)
event_spread event rest = append_assoc (to_be_bytes w32 (length event)) event rest

pub event_len : (event : List ℕ) → length (event_bytes event) ≡ length event + 4
event_len event = omega (arith, length-append (to_be_bytes w32 (length event)) event)

pub one_event : (a b x y : List ℕ) → length a < 2 ^ 32 → length b < 2 ^ 32 → event_bytes a ++ x ≡ event_bytes b ++ y → (a ≡ b) × (x ≡ y)
one_event a b x y l m e =
    let s = four_split (length a) (length b) (a ++ x) (b ++ y) l m (sym (event_spread a x) ∙ e ∙ event_spread b y) in
    same_parts a b x y s.0 s.1

-- each event is shorter than all
pub head_short : (event : List ℕ) (events : List (List ℕ)) (n : ℕ) → length (events_bytes (event ∷ events)) < n → length event < n
head_short event events n few =
    omega (arith, few, length-append (event_bytes event) (events_bytes events), event_len event)

pub tail_short : (event : List ℕ) (events : List (List ℕ)) (n : ℕ) → length (events_bytes (event ∷ events)) < n → length (events_bytes events) < n
tail_short event events n few =
    omega (arith, few, length-append (event_bytes event) (events_bytes events))

pub events_one : (ls bs : List (List ℕ)) → length (events_bytes ls) < 2 ^ 32 → length (events_bytes bs) < 2 ^ 32 → events_bytes ls ≡ events_bytes bs → ls ≡ bs
events_one [] [] l m e = refl
events_one [] (b ∷ bs) l m e =
    absurd (omega (arith, ap length e, length-append (event_bytes b) (events_bytes bs), event_len b))
events_one (a ∷ ls) [] l m e =
    absurd (omega (arith, ap length e, length-append (event_bytes a) (events_bytes ls), event_len a))
events_one (a ∷ ls) (b ∷ bs) l m e =
    let s = one_event a b (events_bytes ls) (events_bytes bs) (head_short a ls (2 ^ 32) l) (head_short b bs (2 ^ 32) m) e in
    let behind = events_one ls bs (tail_short a ls (2 ^ 32) l) (tail_short b bs (2 ^ 32) m) s.1 in
    λ i. s.0 i ∷ behind i

-- one event more
pub events_push : (events : List (List ℕ)) (event : List ℕ) → events_bytes (events ++ event ∷ []) ≡ events_bytes events ++ event_bytes event
events_push [] event = append-nil (event_bytes event)
events_push (e ∷ events) event =
    ap (λ (l : List ℕ). event_bytes e ++ l) (events_push events event) ∙ sym (append_assoc (event_bytes e) (events_bytes events) (event_bytes event))

-- ---- groups

-- framed bytes, piece by piece
pub frame_spread : (owner : Owner) (number : ℕ) (text rest : List ℕ)
    → framed_bytes owner number text ++ rest
    ≡ to_be_bytes w64 owner.mark ++ (to_be_bytes w64 number ++ (to_be_bytes w32 (length text) ++ (text ++ (to_be_bytes w64 (digest owner.key (body_bytes number text)) ++ rest))))
frame_spread owner number text rest =
    let mark = to_be_bytes w64 owner.mark in
    let body = body_bytes number text in
    let check = to_be_bytes w64 (digest owner.key body) in
    append_assoc mark (body ++ check) rest
    ∙ ap (λ (l : List ℕ). mark ++ l) (
    append_assoc body check rest
    ∙ append_assoc (to_be_bytes w64 number) (to_be_bytes w32 (length text) ++ text) (check ++ rest)
    ∙ ap (λ (l : List ℕ). to_be_bytes w64 number ++ l) (append_assoc (to_be_bytes w32 (length text)) text (check ++ rest))
    )

pub frame_len : (owner : Owner) (number : ℕ) (text : List ℕ) → length (framed_bytes owner number text) ≡ length text + 28
frame_len owner number text =
    let mark = to_be_bytes w64 owner.mark in
    let body = body_bytes number text in
    let check = to_be_bytes w64 (digest owner.key body) in
    omega (arith, length-append mark (body ++ check), length-append body check, length-append (to_be_bytes w64 number) (to_be_bytes w32 (length text) ++ text), length-append (to_be_bytes w32 (length text)) text)

pub record IsSameFrame (n m : ℕ) (t u r s : List ℕ) : Type 0 where
  pub number : n ≡ m
  pub text : t ≡ u
  pub rest : r ≡ s

pub one_frame : (owner : Owner) (n m : ℕ) (t u r s : List ℕ) → n < 2 ^ 64 → m < 2 ^ 64 → length t < 2 ^ 32 → length u < 2 ^ 32
    → framed_bytes owner n t ++ r ≡ framed_bytes owner m u ++ s → IsSameFrame n m t u r s
one_frame owner n m t u r s n_fits m_fits t_short u_short e =
    let c = to_be_bytes w64 (digest owner.key (body_bytes n t)) in
    let d = to_be_bytes w64 (digest owner.key (body_bytes m u)) in
    let mine = to_be_bytes w64 n ++ (to_be_bytes w32 (length t) ++ (t ++ (c ++ r))) in
    let other = to_be_bytes w64 m ++ (to_be_bytes w32 (length u) ++ (u ++ (d ++ s))) in
    let behind_mark : mine ≡ other = append_cancel_left (to_be_bytes w64 owner.mark) mine other (sym (frame_spread owner n t r) ∙ e ∙ frame_spread owner m u s) in
    let numbers = eight_split n m (to_be_bytes w32 (length t) ++ (t ++ (c ++ r))) (to_be_bytes w32 (length u) ++ (u ++ (d ++ s))) n_fits m_fits behind_mark in
    let lens = four_split (length t) (length u) (t ++ (c ++ r)) (u ++ (d ++ s)) t_short u_short numbers.1 in
    let texts = same_parts t u (c ++ r) (d ++ s) lens.0 lens.1 in
    record {
      number = numbers.0;
      text = texts.0;
      rest = (same_parts c d r s refl texts.1).1;
    }

pub number_fits : (number : ℕ) (events : List (List ℕ)) → IsGroup number events → number < 2 ^ 64
number_fits number events is = omega (arith, is.numbered)

pub text_fits : (number : ℕ) (events : List (List ℕ)) → IsGroup number events → length (events_bytes events) < 2 ^ 32
text_fits number events is = omega (arith, is.short)

pub record IsSameGroup (n m : ℕ) (ls bs : List (List ℕ)) (r s : List ℕ) : Type 0 where
  pub number : n ≡ m
  pub events : ls ≡ bs
  pub rest : r ≡ s

-- a group at the front of the bytes is the only one there
pub one_group : (owner : Owner) (n m : ℕ) (ls bs : List (List ℕ)) (r s : List ℕ) → IsGroup n ls → IsGroup m bs
    → group_bytes owner n ls ++ r ≡ group_bytes owner m bs ++ s → IsSameGroup n m ls bs r s
one_group owner n m ls bs r s is_a is_b e =
    let same = one_frame owner n m (events_bytes ls) (events_bytes bs) r s (number_fits n ls is_a) (number_fits m bs is_b) (text_fits n ls is_a) (text_fits m bs is_b) e in
    record {
      number = same.number;
      events = events_one ls bs (text_fits n ls is_a) (text_fits m bs is_b) same.text;
      rest = same.rest;
    }

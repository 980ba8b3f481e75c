-- What a log keeps is read, and how a log grows.
use Rattle.std.proofs.Common.{◌≡◌, ℕ, ◌+◌, ◌<◌, ◌^◌, List, [], ◌∷◌, ◌++◌, length, drop, refl, sym, ◌∙◌, ap, subst, arith, append_assoc, length-append, zero-add}
use Rattle.std.proofs.lemmas.List.{append-nil, append_cancel_left, nil_from_length}
use Rattle.std.specs.Prelude.{⊤}
use Rattle.std.specs.Int.{w64, to_be_bytes}
use Rattle.sqlite_disk.specs.Digest.{digest}
use Rattle.event_log.specs.Events.{events_bytes}
use Rattle.event_log.specs.Groups.{group_bytes, IsGroup, HasNoGroup, HasNoNext, BeginsWithGroup}
use Rattle.event_log.specs.Logs.{header_bytes, header_text, groups_bytes, log_bytes, AreGroups, events_of, BeginsWith, IsDamaged, Keeps, Reads, Extends}
use Rattle.event_log.specs.declared.owner.Owner.{Owner}
use Rattle.event_log.proofs.Framing.{one_group, head_short, tail_short, text_fits}

-- ---- what is kept is read

groups_extend : (owner : Owner) (n : ℕ) (gs hs : List (List (List ℕ))) (x tail : List ℕ) → AreGroups n gs → AreGroups n hs
    → groups_bytes owner n gs ++ x ≡ groups_bytes owner n hs ++ tail → HasNoGroup owner tail → Extends (events_of gs) (events_of hs)
groups_extend owner n [] hs x tail are_g are_h e none = record { more = events_of hs; is = refl }
groups_extend owner n (g ∷ gs) [] x tail are_g are_h e none =
    absurd (none 0 (record {
      number = n;
      events = g;
      is_group = are_g.0;
      rest = groups_bytes owner (n + length g) gs ++ x;
      whole = sym e ∙ append_assoc (group_bytes owner n g) (groups_bytes owner (n + length g) gs) x;
    }))
groups_extend owner n (g ∷ gs) (h ∷ hs) x tail are_g are_h e none =
    let same = one_group owner n n g h (groups_bytes owner (n + length g) gs ++ x) (groups_bytes owner (n + length h) hs ++ tail) are_g.0 are_h.0
    (sym (append_assoc (group_bytes owner n g) (groups_bytes owner (n + length g) gs) x) ∙ e ∙ append_assoc (group_bytes owner n h) (groups_bytes owner (n + length h) hs) tail) in
    let behind = groups_extend owner (n + length g) gs hs x tail are_g.1
    (subst (λ (es : List (List ℕ)). AreGroups (n + length es) hs) (sym same.events) are_h.1)
    (same.rest ∙ ap (λ (es : List (List ℕ)). groups_bytes owner (n + length es) hs ++ tail) (sym same.events)) none in
    record {
      more = behind.more;
      is = ap (λ (es : List (List ℕ)). es ++ events_of hs) (sym same.events)
          ∙ ap (λ (es : List (List ℕ)). g ++ es) behind.is
          ∙ sym (append_assoc g (events_of gs) behind.more);
    }

-- behind the header
pub behind_header : (owner : Owner) (gs hs : List (List (List ℕ))) (x y : List ℕ) → log_bytes owner gs ++ x ≡ log_bytes owner hs ++ y → groups_bytes owner 0 gs ++ x ≡ groups_bytes owner 0 hs ++ y
behind_header owner gs hs x y e =
    append_cancel_left (header_bytes owner) (groups_bytes owner 0 gs ++ x) (groups_bytes owner 0 hs ++ y)
    (sym (append_assoc (header_bytes owner) (groups_bytes owner 0 gs) x) ∙ e ∙ append_assoc (header_bytes owner) (groups_bytes owner 0 hs) y)

pub keeps_reads : (owner : Owner) (events more : List (List ℕ)) (file : List ℕ) → Keeps owner events file → Reads owner file more → Extends events more
keeps_reads owner events more file keeps reads =
    let gs = keeps.begins.groups in
    let hs = reads.begins.groups in
    let e = groups_extend owner 0 gs hs keeps.tail reads.tail keeps.begins.are_groups reads.begins.are_groups
    (behind_header owner gs hs keeps.tail reads.tail (sym keeps.begins.whole ∙ reads.begins.whole)) reads.torn in
    record {
      more = e.more;
      is = sym reads.begins.told ∙ e.is ∙ ap (λ (es : List (List ℕ)). es ++ e.more) keeps.begins.told;
    }

pub extends_both : {X : Type 0} (a b : List X) → Extends a b → Extends b a → a ≡ b
extends_both {X = X} a b one other =
    let none : length one.more ≡ 0 =
    omega (arith, ap length one.is, ap length other.is, length-append a one.more, length-append b other.more) in
    sym (one.is ∙ ap (λ (l : List X). a ++ l) (nil_from_length one.more none) ∙ append-nil a)

pub reads_keeps : (owner : Owner) (events : List (List ℕ)) (file : List ℕ) → Reads owner file events → Keeps owner events file
reads_keeps owner events file reads = record { tail = reads.tail; begins = reads.begins }

pub reads_one : (owner : Owner) (events other : List (List ℕ)) (file : List ℕ) → Reads owner file events → Reads owner file other → events ≡ other
reads_one owner events other file a b =
    extends_both events other (keeps_reads owner events other file (reads_keeps owner events file a) b)
    (keeps_reads owner other events file (reads_keeps owner other file b) a)

-- ---- where reading ends

-- Reading ends at one place.
tails_one : (owner : Owner) (n : ℕ) (gs hs : List (List (List ℕ))) (x y : List ℕ) → AreGroups n gs → AreGroups n hs
    → groups_bytes owner n gs ++ x ≡ groups_bytes owner n hs ++ y → HasNoNext owner (n + length (events_of gs)) x → HasNoNext owner (n + length (events_of hs)) y → x ≡ y
tails_one owner n [] [] x y are_g are_h e none_x none_y = e
tails_one owner n [] (h ∷ hs) x y are_g are_h e none_x none_y =
    let same : n + 0 ≡ n = omega arith in
    absurd (subst (λ (k : ℕ). HasNoNext owner k x) same none_x h (groups_bytes owner (n + length h) hs ++ y) are_h.0
    (e ∙ append_assoc (group_bytes owner n h) (groups_bytes owner (n + length h) hs) y))
tails_one owner n (g ∷ gs) [] x y are_g are_h e none_x none_y =
    let same : n + 0 ≡ n = omega arith in
    absurd (subst (λ (k : ℕ). HasNoNext owner k y) same none_y g (groups_bytes owner (n + length g) gs ++ x) are_g.0
    (sym e ∙ append_assoc (group_bytes owner n g) (groups_bytes owner (n + length g) gs) x))
tails_one owner n (g ∷ gs) (h ∷ hs) x y are_g are_h e none_x none_y =
    let same = one_group owner n n g h (groups_bytes owner (n + length g) gs ++ x) (groups_bytes owner (n + length h) hs ++ y) are_g.0 are_h.0
    (sym (append_assoc (group_bytes owner n g) (groups_bytes owner (n + length g) gs) x) ∙ e ∙ append_assoc (group_bytes owner n h) (groups_bytes owner (n + length h) hs) y) in
    let is_g : n + length (g ++ events_of gs) ≡ n + length g + length (events_of gs) = omega (arith, length-append g (events_of gs)) in
    let is_h : n + length (h ++ events_of hs) ≡ n + length g + length (events_of hs) = omega (arith, length-append h (events_of hs), ap length same.events) in
    tails_one owner (n + length g) gs hs x y are_g.1
    (subst (λ (es : List (List ℕ)). AreGroups (n + length es) hs) (sym same.events) are_h.1)
    (same.rest ∙ ap (λ (es : List (List ℕ)). groups_bytes owner (n + length es) hs ++ y) (sym same.events))
    (subst (λ (k : ℕ). HasNoNext owner k x) is_g none_x) (subst (λ (k : ℕ). HasNoNext owner k y) is_h none_y)

pub ends_one : (owner : Owner) (file : List ℕ) (events other : List (List ℕ)) (x y : List ℕ) → BeginsWith owner events file x → HasNoNext owner (length events) x
    → BeginsWith owner other file y → HasNoNext owner (length other) y → x ≡ y
ends_one owner file events other x y a none_x b none_y =
    let at_a : length events ≡ 0 + length (events_of a.groups) = ap length (sym a.told) ∙ sym (zero-add (length (events_of a.groups))) in
    let at_b : length other ≡ 0 + length (events_of b.groups) = ap length (sym b.told) ∙ sym (zero-add (length (events_of b.groups))) in
    tails_one owner 0 a.groups b.groups x y a.are_groups b.are_groups (behind_header owner a.groups b.groups x y (sym a.whole ∙ b.whole))
    (subst (λ (k : ℕ). HasNoNext owner k x) at_a none_x) (subst (λ (k : ℕ). HasNoNext owner k y) at_b none_y)

-- No group at all is none of the next number.
pub no_group_no_next : (owner : Owner) (number : ℕ) (bytes : List ℕ) → (BeginsWithGroup owner bytes → ⊥) → HasNoNext owner number bytes
no_group_no_next owner number bytes none events rest is e = none (record { number = number; events = events; is_group = is; rest = rest; whole = e })

-- Where reading ends, a sound group is behind it if the file is damaged.
pub damage_shows : (owner : Owner) (file tail : List ℕ) (events : List (List ℕ)) → BeginsWith owner events file tail → HasNoNext owner (length events) tail
    → IsDamaged owner file → HasNoGroup owner tail → ⊥
damage_shows owner file tail events begins none damaged torn =
    let same = ends_one owner file damaged.events events damaged.tail tail damaged.begins damaged.none begins none in
    torn damaged.place (subst (λ (l : List ℕ). BeginsWithGroup owner (drop damaged.place l)) same damaged.sound)

pub damage_not_read : (owner : Owner) (events : List (List ℕ)) (file : List ℕ) → IsDamaged owner file → Reads owner file events → ⊥
damage_not_read owner events file damaged reads =
    damage_shows owner file reads.tail events reads.begins (no_group_no_next owner (length events) reads.tail (reads.torn 0)) damaged reads.torn

-- ---- one group more

groups_push : (owner : Owner) (n : ℕ) (gs : List (List (List ℕ))) (g : List (List ℕ))
    → groups_bytes owner n (gs ++ g ∷ []) ≡ groups_bytes owner n gs ++ group_bytes owner (n + length (events_of gs)) g
groups_push owner n [] g =
    let same : n ≡ n + 0 = omega arith in
    append-nil (group_bytes owner n g) ∙ ap (λ (k : ℕ). group_bytes owner k g) same
groups_push owner n (h ∷ gs) g =
    let same : n + length h + length (events_of gs) ≡ n + length (h ++ events_of gs) = omega (arith, length-append h (events_of gs)) in
    ap (λ (l : List ℕ). group_bytes owner n h ++ l) (groups_push owner (n + length h) gs g)
    ∙ sym (append_assoc (group_bytes owner n h) (groups_bytes owner (n + length h) gs) (group_bytes owner (n + length h + length (events_of gs)) g))
    ∙ ap (λ (k : ℕ). (group_bytes owner n h ++ groups_bytes owner (n + length h) gs) ++ group_bytes owner k g) same

are_groups_push : (n : ℕ) (gs : List (List (List ℕ))) (g : List (List ℕ)) → AreGroups n gs → IsGroup (n + length (events_of gs)) g → AreGroups n (gs ++ g ∷ [])
are_groups_push n [] g are is =
    let same : n + 0 ≡ n = omega arith in
    (subst (λ (k : ℕ). IsGroup k g) same is, tt)
are_groups_push n (h ∷ gs) g are is =
    let same : n + length (h ++ events_of gs) ≡ n + length h + length (events_of gs) = omega (arith, length-append h (events_of gs)) in
    (are.0, are_groups_push (n + length h) gs g are.1 (subst (λ (k : ℕ). IsGroup k g) same is))

events_of_push : (gs : List (List (List ℕ))) (g : List (List ℕ)) → events_of (gs ++ g ∷ []) ≡ events_of gs ++ g
events_of_push [] g = append-nil g
events_of_push (h ∷ gs) g = ap (λ (es : List (List ℕ)). h ++ es) (events_of_push gs g) ∙ sym (append_assoc h (events_of gs) g)

-- the bytes of a log with one group more
pub log_push : (owner : Owner) (events : List (List ℕ)) (gs : List (List (List ℕ))) (g : List (List ℕ)) → events_of gs ≡ events
    → log_bytes owner (gs ++ g ∷ []) ≡ log_bytes owner gs ++ group_bytes owner (length events) g
log_push owner events gs g told =
    let same : 0 + length (events_of gs) ≡ length events = zero-add (length (events_of gs)) ∙ ap length told in
    ap (λ (l : List ℕ). header_bytes owner ++ l) (groups_push owner 0 gs g)
    ∙ sym (append_assoc (header_bytes owner) (groups_bytes owner 0 gs) (group_bytes owner (0 + length (events_of gs)) g))
    ∙ ap (λ (k : ℕ). (header_bytes owner ++ groups_bytes owner 0 gs) ++ group_bytes owner k g) same

-- A file that begins with a log, and with one group behind it, begins with a longer log.
pub begins_more : (owner : Owner) (events : List (List ℕ)) (file tail rest : List ℕ) (g : List (List ℕ)) → BeginsWith owner events file tail
    → IsGroup (length events) g → tail ≡ group_bytes owner (length events) g ++ rest → BeginsWith owner (events ++ g) file rest
begins_more owner events file tail rest g begins is e =
    let gs = begins.groups in
    let same : length events ≡ 0 + length (events_of gs) = ap length (sym begins.told) ∙ sym (zero-add (length (events_of gs))) in
    record {
      groups = gs ++ g ∷ [];
      are_groups = are_groups_push 0 gs g begins.are_groups (subst (λ (k : ℕ). IsGroup k g) same is);
      told = events_of_push gs g ∙ ap (λ (es : List (List ℕ)). es ++ g) begins.told;
      whole = begins.whole ∙ ap (λ (l : List ℕ). log_bytes owner gs ++ l) e
          ∙ sym (append_assoc (log_bytes owner gs) (group_bytes owner (length events) g) rest)
          ∙ ap (λ (l : List ℕ). l ++ rest) (sym (log_push owner events gs g begins.told));
    }

-- ---- bounds

abbrev pub AreShort : List (List ℕ) → Type 0
AreShort [] = ⊤
AreShort (event ∷ events) = (length event < 2 ^ 32) × AreShort events

events_short : (events : List (List ℕ)) → length (events_bytes events) < 2 ^ 32 → AreShort events
events_short [] short = tt
events_short (event ∷ events) short = (head_short event events (2 ^ 32) short, events_short events (tail_short event events (2 ^ 32) short))

short_append : (ls bs : List (List ℕ)) → AreShort ls → AreShort bs → AreShort (ls ++ bs)
short_append [] bs a b = b
short_append (x ∷ ls) bs a b = (a.0, short_append ls bs a.1 b)

groups_short : (n : ℕ) (gs : List (List (List ℕ))) → AreGroups n gs → AreShort (events_of gs)
groups_short n [] are = tt
groups_short n (g ∷ gs) are = short_append g (events_of gs) (events_short g (text_fits n g are.0)) (groups_short (n + length g) gs are.1)

pub begins_short : (owner : Owner) (events : List (List ℕ)) (file tail : List ℕ) → BeginsWith owner events file tail → AreShort events
begins_short owner events file tail begins = subst AreShort begins.told (groups_short 0 begins.groups begins.are_groups)

pub header_len : (owner : Owner) → length (header_bytes owner) ≡ 32
header_len owner = omega (arith, length-append (header_text owner) (to_be_bytes w64 (digest 0 (header_text owner))))

-- A file with a log has the header at least.
pub log_long : (owner : Owner) (events : List (List ℕ)) (file tail : List ℕ) → BeginsWith owner events file tail → 0 < length file
log_long owner events file tail begins =
    omega (arith, ap length begins.whole, length-append (log_bytes owner begins.groups) tail, length-append (header_bytes owner) (groups_bytes owner 0 begins.groups), header_len owner)

-- Frames that nobody waits for.
use Rattle.std.proofs.Common.{◌≡◌, ℕ, ◌+◌, ◌<◌, ◌≤◌, List, [], ◌∷◌, map, filter, cond, Bool, true, false, zero, suc, length, take, get_or, set, min, refl, sym, ap, ◌∙◌, subst, arith, ◌⊎◌, inl, inr, None}
use Rattle.std.specs.Prelude.{All, slice_get}
use Rattle.std.proofs.lemmas.List.{length-map, length-set, length-take, get_or-map, get_or-take, get_or-set_same, get_or-set_other, map-set, take_all}
use Rattle.std.proofs.lemmas.Bool.{cases_eq}
use Rattle.std.proofs.lemmas.List.Elements.{All-more}
use Rattle.terms.specs.Parties.{party_number}
use Rattle.terms.specs.declared.parties.Party.{Party}
use Rattle.schedule_world.specs.declared.pool.Made.{Made}
use Rattle.schedule_world.specs.Pooled.{Frame, IsServed, AreServed, IsFirstWaiting, numbers_without, noted}
use Rattle.schedule_world.specs.PoolView.{frame_in_pool}

frame_at : (ms : List Made) (i : ℕ) (d : Made) (e : Frame) → i < length ms → get_or (map frame_in_pool ms) i e ≡ frame_in_pool (get_or ms i d)
frame_at ms i d e h = get_or-map frame_in_pool ms i d e h

pub next_served : (ms : List Made) (i : ℕ) (d : Made) → i < length ms → (get_or ms i d).waiting.items ≡ []
    → AreServed (map frame_in_pool ms) i → AreServed (map frame_in_pool ms) (i + 1)
next_served ms i d within none served =
    let all : length (map frame_in_pool ms) ≡ length ms = length-map ms frame_in_pool in
    let there : i < length (map frame_in_pool ms) = omega arith in
    All-more IsServed (map frame_in_pool ms) i (frame_in_pool d) there served
    (ap (λ f. f.waiting) (frame_at ms i d (frame_in_pool d) within) ∙ ap (map party_number) none)

pub all_served : (ms : List Made) (n : ℕ) → length ms ≤ n → AreServed (map frame_in_pool ms) n → All IsServed (map frame_in_pool ms)
all_served ms n h served =
    let all : length (map frame_in_pool ms) ≡ length ms = length-map ms frame_in_pool in
    subst (All IsServed) (take_all n (map frame_in_pool ms) (omega arith)) served

abbrev Waits : Party → List Party → Type 0
Waits p xs = (others : List ℕ) × (map party_number xs ≡ party_number p ∷ others)

waits : (p : Party) (xs : List Party) → 0 < length xs → p ≡ get_or xs 0 p → Waits p xs
waits p [] some e = absurd (omega arith)
waits p (x ∷ xs) some e = (map party_number xs, ap (λ q. party_number q ∷ map party_number xs) (sym e))

pub is_next : (ms : List Made) (i : ℕ) (d : Made) (p : Party) → i < length ms → 0 < length (get_or ms i d).waiting.items
    → p ≡ get_or (get_or ms i d).waiting.items 0 p → AreServed (map frame_in_pool ms) i → IsFirstWaiting (map frame_in_pool ms) i (party_number p)
is_next ms i d p within some first served =
    let all : length (map frame_in_pool ms) ≡ length ms = length-map ms frame_in_pool in
    let w = waits p (get_or ms i d).waiting.items some first in
    record {
      served = served;
      there = omega arith;
      waits = λ e. (w.0, ap (λ f. f.waiting) (frame_at ms i d e within) ∙ w.1);
    }

pub none_first : (xs : List Party) → None ≡ slice_get xs 0 → xs ≡ []
none_first [] e = refl
none_first (x ∷ xs) e = absurd (let g : ⊥ = cc in g)

-- ---- one frame changes

served_case : (fs : List Frame) (i n k : ℕ) (f d : Frame) → (IsServed (get_or fs i d) → IsServed f) → AreServed fs n
    → k < n → k < length fs → (k ≡ i) ⊎ (k ≡ i → ⊥) → IsServed (get_or (set fs i f) k d)
served_case fs i n k f d g h low within (inl e) =
    let l : length (take n fs) ≡ min n (length fs) = length-take n fs in
    let there : i < length (take n fs) = omega arith in
    let before : IsServed (get_or fs i d) = ap (λ t. t.waiting) (sym (get_or-take n fs i d (omega arith))) ∙ h i d there in
    let same : get_or (set fs i f) k d ≡ f = ap (λ j. get_or (set fs i f) j d) e ∙ get_or-set_same fs i f d (omega arith) in
    ap (λ t. t.waiting) same ∙ g before
served_case fs i n k f d g h low within (inr e) =
    let l : length (take n fs) ≡ min n (length fs) = length-take n fs in
    let there : k < length (take n fs) = omega arith in
    ap (λ t. t.waiting) (get_or-set_other fs i k f d e) ∙ ap (λ t. t.waiting) (sym (get_or-take n fs k d low)) ∙ h k d there

pub served_set : (fs : List Frame) (i n : ℕ) (f : Frame) → ((d : Frame) → IsServed (get_or fs i d) → IsServed f) → AreServed fs n → AreServed (set fs i f) n
served_set fs i n f g h k d p =
    let a : length (take n (set fs i f)) ≡ min n (length (set fs i f)) = length-take n (set fs i f) in
    let b : length (set fs i f) ≡ length fs = length-set fs i f in
    let low : k < n = omega arith in
    let within : k < length fs = omega arith in
    ap (λ t. t.waiting) (get_or-take n (set fs i f) k d low) ∙ served_case fs i n k f d (g d) h low within (cases_eq k i)

pub nobody : (xs : List Party) → map party_number xs ≡ [] → xs ≡ []
nobody [] e = refl
nobody (x ∷ xs) e = absurd (let g : ⊥ = cc in g)

-- of the parties that waited for a frame one is forgotten
pub forgotten_served : (ms : List Made) (i n : ℕ) (m d : Made) → i < length ms → d ≡ get_or ms i d
    → (d.waiting.items ≡ [] → m.waiting.items ≡ []) → AreServed (map frame_in_pool ms) n → AreServed (map frame_in_pool (set ms i m)) n
forgotten_served ms i n m d within e g h =
    subst (λ fs. AreServed fs n) (sym (map-set frame_in_pool ms i m))
    (served_set (map frame_in_pool ms) i n (frame_in_pool m)
    (λ x s. ap (map party_number) (g (nobody d.waiting.items (ap (λ t. t.waiting) (ap frame_in_pool e ∙ sym (frame_at ms i d x within)) ∙ s)))) h)

-- ---- a party that doesn't wait any more

map_case : {X Y : Type 0} (f : X → Y) (x : X) (xs : List X) (b : Bool) (ys : List Y) → map f xs ≡ ys → map f (cond b (x ∷ xs) xs) ≡ cond b (f x ∷ ys) ys
map_case f x xs true ys e = ap (λ zs. f x ∷ zs) e
map_case f x xs false ys e = e

pub map_filter : {X Y : Type 0} (f : X → Y) (p : Y → Bool) (xs : List X) → map f (filter (λ x. p (f x)) xs) ≡ filter p (map f xs)
map_filter f p [] = refl
map_filter f p (x ∷ xs) = map_case f x (filter (λ y. p (f y)) xs) (p (f x)) (filter p (map f xs)) (map_filter f p xs)

pub noted_set : (ms : List Made) (i p : ℕ) (m d : Made) → i < length ms → d ≡ get_or ms i d → m.bytes ≡ d.bytes
    → map party_number m.waiting.items ≡ numbers_without p (map party_number d.waiting.items) → map frame_in_pool (set ms i m) ≡ noted (map frame_in_pool ms) i p
noted_set [] i p m d within e b w = absurd (omega arith)
noted_set (x ∷ ms) zero p m d within e b w =
    let bytes : m.bytes ≡ x.bytes = b ∙ ap (λ t. t.bytes) e in
    let waiting : map party_number m.waiting.items ≡ numbers_without p (map party_number x.waiting.items) = w ∙ ap (λ t. numbers_without p (map party_number t.waiting.items)) e in
    λ t. record { bytes = bytes t; waiting = waiting t } ∷ map frame_in_pool ms
noted_set (x ∷ ms) (suc i) p m d within e b w = ap (λ fs. frame_in_pool x ∷ fs) (noted_set ms i p m d (omega arith) e b w)

pub noted_none : (fs : List Frame) (i p : ℕ) → length fs ≤ i → noted fs i p ≡ fs
noted_none [] i p h = refl
noted_none (f ∷ fs) zero p h = absurd (omega arith)
noted_none (f ∷ fs) (suc i) p h = ap (λ gs. f ∷ gs) (noted_none fs i p (omega arith))

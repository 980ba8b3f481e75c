-- States are equal where their pages and headers are.
use Rattle.std.proofs.Common.{◌≡◌, ℕ, suc, ◌%◌, ◌^◌, ◌≤◌, ◌<◌, Bool, true, false, cond, List, [], ◌∷◌, ◌++◌, length}
use Rattle.std.proofs.Common.{take, drop, get_or, refl, sym, ap, ◌∙◌, subst, arith, eq-eqb, append_assoc, length-append}
use Rattle.std.specs.Prelude.{◌==◌, All, AllPairs, filter}
use Rattle.std.specs.Int.{w16, w64, to_be_bytes, from_be_bytes}
use Rattle.std.proofs.lemmas.List.{take_at, drop_at}
use Rattle.std.proofs.lemmas.List.Elements.{All-cons, All-head, All-tail, All-filter, All-weaker}
use Rattle.std.proofs.lemmas.Nat.{from_be_bytes-to_be_bytes_8}
use Rattle.tuple_tree.specs.Values.{TupleTree, IsTuple}
use Rattle.tuple_tree.specs.Spelling.{tuple_spelling}
use Rattle.tuple_tree.specs.Reading.{tuple_at}
use Rattle.tuple_codec.proofs.Grammar.{one, tuple_reads}
use Rattle.space.specs.Births.{BornTuple, SpaceState, IsState}
use Rattle.space.specs.Reading.{IsEntry}
use Rattle.space.specs.declared.version.Version.{Version}
use Rattle.space.specs.declared.version.Version.TheVariants as versions
use Rattle.space.specs.Pages.{stored_text, entry_text, entries_text, on_page, tuple_page_text, version_byte}
use Rattle.space.specs.Pages.{header_text, IsStateAt}

-- ---- numbers and texts

bytes_same : (a b : ℕ) → a < 2 ^ 64 → b < 2 ^ 64 → to_be_bytes w64 a ≡ to_be_bytes w64 b → a ≡ b
bytes_same a b l m e = sym (from_be_bytes-to_be_bytes_8 a l) ∙ ap (from_be_bytes w64) e ∙ from_be_bytes-to_be_bytes_8 b m

pub number_split : (a b : ℕ) (u v : List ℕ) → a < 2 ^ 64 → b < 2 ^ 64 → to_be_bytes w64 a ++ u ≡ to_be_bytes w64 b ++ v → (a ≡ b) × (u ≡ v)
number_split a b u v l m e =
    let front : to_be_bytes w64 a ≡ to_be_bytes w64 b = sym (take_at (to_be_bytes w64 a) u 8 refl) ∙ ap (take 8) e ∙ take_at (to_be_bytes w64 b) v 8 refl in
    let rest : u ≡ v = sym (drop_at (to_be_bytes w64 a) u 8 refl) ∙ ap (drop 8) e ∙ drop_at (to_be_bytes w64 b) v 8 refl in
    (bytes_same a b l m front, rest)

tuple_split : (t r : TupleTree) (u v : List ℕ) → IsTuple t → IsTuple r → tuple_spelling t ++ u ≡ tuple_spelling r ++ v → (t ≡ r) × (u ≡ v)
tuple_split t r u v d g e =
    let p = one IsTuple tuple_spelling tuple_at tuple_reads (tuple_spelling t) (tuple_spelling r) u v t r
    (record { valid = d; spelled = refl }) (record { valid = g; spelled = refl }) e in
    let rest : u ≡ v =
    sym (drop_at (tuple_spelling t) u (length (tuple_spelling t)) refl) ∙ ap (drop (length (tuple_spelling t))) e
    ∙ drop_at (tuple_spelling r) v (length (tuple_spelling t)) (ap length (sym p.0)) in
    (p.1, rest)

-- what stands behind the length of a tuple's spelling
pub behind_length : (t : TupleTree) (u : List ℕ) → drop 2 (stored_text versions.Two t ++ u) ≡ tuple_spelling t ++ u
behind_length t u =
    let front : List ℕ = to_be_bytes w16 (length (tuple_spelling t)) in
    ap (drop 2) (append_assoc front (tuple_spelling t) u) ∙ drop_at front (tuple_spelling t ++ u) 2 refl

pub stored_split : (w : Version) (t r : TupleTree) (u v : List ℕ) → IsTuple t → IsTuple r → stored_text w t ++ u ≡ stored_text w r ++ v → (t ≡ r) × (u ≡ v)
stored_split versions.One t r u v d g e = tuple_split t r u v d g e
stored_split versions.Two t r u v d g e = tuple_split t r u v d g (sym (behind_length t u) ∙ ap (drop 2) e ∙ behind_length r v)

pub entry_split : (w : Version) (e f : BornTuple) (u v : List ℕ) → IsEntry e → IsEntry f → entry_text w e ++ u ≡ entry_text w f ++ v → (e ≡ f) × (u ≡ v)
entry_split w e f u v d g t =
    let a : to_be_bytes w64 e.0 ++ (stored_text w e.1 ++ u) ≡ to_be_bytes w64 f.0 ++ (stored_text w f.1 ++ v) =
    sym (append_assoc (to_be_bytes w64 e.0) (stored_text w e.1) u) ∙ t ∙ append_assoc (to_be_bytes w64 f.0) (stored_text w f.1) v in
    let s = number_split e.0 f.0 (stored_text w e.1 ++ u) (stored_text w f.1 ++ v) d.fits g.fits a in
    let p = stored_split w e.1 f.1 u v d.tuple g.tuple s.1 in
    (rw (s.0, p.0) refl, p.1)

pub entries_none : (w : Version) (e : BornTuple) (u : List ℕ) → entry_text w e ++ u ≡ [] → ⊥
entries_none w e u t = omega (arith, ap length t, length-append (entry_text w e) u, length-append (to_be_bytes w64 e.0) (stored_text w e.1))

pub entries_same : (w : Version) (es fs : List BornTuple) → All IsEntry es → All IsEntry fs → entries_text w es ≡ entries_text w fs → es ≡ fs
entries_same w [] [] d g t = refl
entries_same w [] (f ∷ fs) d g t = absurd (entries_none w f (entries_text w fs) (sym t))
entries_same w (e ∷ es) [] d g t = absurd (entries_none w e (entries_text w es) t)
entries_same w (e ∷ es) (f ∷ fs) d g t =
    let s = entry_split w e f (entries_text w es) (entries_text w fs) (All-head IsEntry e es d) (All-head IsEntry f fs g) t in
    rw (s.0, entries_same w es fs (All-tail IsEntry e es d) (All-tail IsEntry f fs g) s.1) refl

-- ---- pages of births that rise

abbrev on : ℕ → List BornTuple → List BornTuple
on page es = filter (λ e. e.0 % 256 == page) es

-- the births rise, from this number on
abbrev pub Rises : ℕ → List BornTuple → Type 0
Rises from [] = Unit {0}
Rises from (e ∷ es) = (from ≤ e.0) × Rises (suc e.0) es

pub Rises-from_pairs : (from : ℕ) (es : List BornTuple) → AllPairs (λ e f. e.0 < f.0) es → All (λ e. from ≤ e.0) es → Rises from es
Rises-from_pairs from [] h a = tt
Rises-from_pairs from (e ∷ es) h a =
    (All-head (λ x. from ≤ x.0) e es a, Rises-from_pairs (suc e.0) es (λ i j d l m. h (suc i) (suc j) d (omega arith) (omega arith)) (λ k d l. let p = h 0 (suc k) d (omega arith) (omega arith) in omega arith))

pub all_from : (from : ℕ) (es : List BornTuple) → Rises from es → All (λ e. from ≤ e.0) es
all_from from [] h = λ k d l. absurd (omega arith)
all_from from (e ∷ es) h =
    All-cons (λ x. from ≤ x.0) e es h.0 (All-weaker (λ x. suc e.0 ≤ x.0) (λ x. from ≤ x.0) (λ x l. let a = h.0 in omega arith) es (all_from (suc e.0) es h.1))

on_here : (e : BornTuple) (es : List BornTuple) → on (e.0 % 256) (e ∷ es) ≡ e ∷ on (e.0 % 256) es
on_here e es = ap (λ b. cond b (e ∷ on (e.0 % 256) es) (on (e.0 % 256) es)) (eq-eqb (e.0 % 256) (e.0 % 256) refl)

not_lower : (e f : BornTuple) (es fs : List BornTuple) → All (λ x. f.0 ≤ x.0) (f ∷ fs) → on (e.0 % 256) (e ∷ es) ≡ on (e.0 % 256) (f ∷ fs) → f.0 ≤ e.0
not_lower e f es fs low t =
    let all = All-filter (λ x. x.0 % 256 == e.0 % 256) (λ x. f.0 ≤ x.0) (f ∷ fs) low in
    let same : on (e.0 % 256) (f ∷ fs) ≡ e ∷ on (e.0 % 256) es = sym t ∙ on_here e es in
    All-head (λ x. f.0 ≤ x.0) e (on (e.0 % 256) es) (subst (λ (xs : List BornTuple). All (λ x. f.0 ≤ x.0) xs) same all)

pub merged : (from : ℕ) (es fs : List BornTuple) → Rises from es → Rises from fs → ((page : ℕ) → page < 256 → on page es ≡ on page fs) → es ≡ fs
merged from [] [] a b h = refl
merged from [] (f ∷ fs) a b h = let l : f.0 % 256 < 256 = omega arith in let e : [] ≡ f ∷ on (f.0 % 256) fs = h (f.0 % 256) l ∙ on_here f fs in absurd (let g : ⊥ = cc in g)
merged from (e ∷ es) [] a b h = let l : e.0 % 256 < 256 = omega arith in let t : e ∷ on (e.0 % 256) es ≡ [] = sym (on_here e es) ∙ h (e.0 % 256) l in absurd (let g : ⊥ = cc in g)
merged from (e ∷ es) (f ∷ fs) a b h =
    let le : e.0 % 256 < 256 = omega arith in
    let lf : f.0 % 256 < 256 = omega arith in
    let one = not_lower e f es fs (all_from f.0 (f ∷ fs) (omega arith, b.1)) (h (e.0 % 256) le) in
    let two = not_lower f e fs es (all_from e.0 (e ∷ es) (omega arith, a.1)) (sym (h (f.0 % 256) lf)) in
    let same : e.0 ≡ f.0 = omega arith in
    let heads : e ∷ on (e.0 % 256) es ≡ f ∷ on (e.0 % 256) fs =
    sym (on_here e es) ∙ h (e.0 % 256) le ∙ subst (λ (n : ℕ). on (n % 256) (f ∷ fs) ≡ f ∷ on (n % 256) fs) (sym same) (on_here f fs) in
    let first : e ≡ f = cc in
    let b' : Rises (suc e.0) fs = subst (λ (n : ℕ). Rises (suc n) fs) (sym same) b.1 in
    rw (first, merged (suc e.0) es fs a.1 b' (λ page l. rest page (e.0 % 256 == page) (f.0 % 256 == page) (ap (λ (n : ℕ). n % 256 == page) same) (h page l))) refl
  where
    rest : (page : ℕ) (a b : Bool) → a ≡ b → cond a (e ∷ on page es) (on page es) ≡ cond b (f ∷ on page fs) (on page fs) → on page es ≡ on page fs
    rest page true true t h = cc
    rest page false false t h = h
    rest page true false t h = absurd (let g : ⊥ = cc in g)
    rest page false true t h = absurd (let g : ⊥ = cc in g)

pub entries_from_pages : (es fs : List BornTuple) → AllPairs (λ e f. e.0 < f.0) es → AllPairs (λ e f. e.0 < f.0) fs
    → ((page : ℕ) → page < 256 → on_page page es ≡ on_page page fs) → es ≡ fs
unfolding on_page
entries_from_pages es fs d g h =
    merged 0 es fs (Rises-from_pairs 0 es d (λ k x l. omega arith)) (Rises-from_pairs 0 fs g (λ k x l. omega arith)) h

-- ---- states

pub entries_fit : (s : SpaceState) → IsState s → s.next < 2 ^ 64 → All IsEntry s.entries
entries_fit s h l k d m = let b = h.below_next k d m in record { fits = omega arith; tuple = h.tuples k d m }

pub on_page_fits : (s : SpaceState) (page : ℕ) → IsState s → s.next < 2 ^ 64 → All IsEntry (on_page page s.entries)
unfolding on_page
on_page_fits s page h l = All-filter (λ e. e.0 % 256 == page) IsEntry s.entries (entries_fit s h l)

pub next_fits : (s : SpaceState) (number : ℕ) → IsStateAt s number → s.next < 2 ^ 64
next_fits s number h = let a = h.births in let b = h.few in omega arith

-- the first byte tells the version
pub one_version : (v w : Version) → version_byte v ≡ version_byte w → v ≡ w
one_version versions.One versions.One e = refl
one_version versions.One versions.Two e = absurd (omega (arith, e))
one_version versions.Two versions.One e = absurd (omega (arith, e))
one_version versions.Two versions.Two e = refl

pub pages_determine : (s t : SpaceState) (m n : ℕ) → IsStateAt s m → IsStateAt t n → header_text s m ≡ header_text t n
    → ((page : ℕ) → page < 256 → tuple_page_text s page ≡ tuple_page_text t page) → (m ≡ n) × (s ≡ t)
pages_determine s t m n h k e pages =
    let u : to_be_bytes w64 m ++ to_be_bytes w64 s.next ≡ to_be_bytes w64 n ++ to_be_bytes w64 t.next = ap (drop 1) e in
    let hm = h.few in
    let kn = k.few in
    let header = number_split m n (to_be_bytes w64 s.next) (to_be_bytes w64 t.next) (omega arith) (omega arith) u in
    let version : s.version ≡ t.version = one_version s.version t.version (ap (λ bs. get_or bs 0 0) e) in
    let next : s.next ≡ t.next = bytes_same s.next t.next (next_fits s m h) (next_fits t n k) header.1 in
    let entries : s.entries ≡ t.entries = entries_from_pages s.entries t.entries h.state.rising k.state.rising (λ page l.
    entries_same s.version (on_page page s.entries) (on_page page t.entries) (on_page_fits s page h.state (next_fits s m h)) (on_page_fits t page k.state (next_fits t n k))
    (pages page l ∙ ap (λ w. entries_text w (on_page page t.entries)) (sym version))) in
    (header.0, build s.version t.version s.entries t.entries s.next t.next version entries next)
  where
    build : (v w : Version) (es fs : List BornTuple) (a b : ℕ) → v ≡ w → es ≡ fs → a ≡ b
        → ◌≡◌ {A = SpaceState} (record { version = v; entries = es; next = a }) (record { version = w; entries = fs; next = b })
    build v w es fs a b o p q = rw (o, p, q) refl

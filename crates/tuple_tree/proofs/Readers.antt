-- Laws of readers: each value that a reader gives is spelled at the front, and each spelled value is read again.
use Rattle.std.proofs.Common.{◌≡◌, ◌⊎◌, inl, inr, ℕ, zero, suc, ◌+◌, ◌-◌, ◌<◌, ◌≤◌, Bool, true, false, cond, List, []}
use Rattle.std.proofs.Common.{◌∷◌, ◌++◌, length, take, drop, Option, Some, None, ap, sym, subst, refl, ◌∙◌, arith}
use Rattle.std.proofs.Common.{append_assoc, length-append}
use Rattle.std.proofs.lemmas.List.{take-append-drop, length-take}
use Rattle.std.proofs.Math.Seq.{take-append-add, drop-append-add}
use Rattle.std.proofs.lemmas.Bool.{eqb-true}
use lib.Dec.{eqb}
use Rattle.tuple_tree.specs.Values.{AreBytes}
use Rattle.tuple_tree.specs.Reading.{◌>>=◌, Reader, read_as, more, byte_at, TaggedReader, by_tag, unknown, framed}

-- The front of the bytes is the text, and bytes are left.
pub record Takes (bs text rest : List ℕ) : Type 0 where
  pub whole : bs ≡ text ++ rest
  pub bytes : AreBytes rest

pub bind_some : {A B : Type 0} (o : Option A) (f : A → Option B) (y : B) → (o >>= f) ≡ Some y → (x : A) × (o ≡ Some x) × (f x ≡ Some y)
bind_some None f y e = absurd (let g : ⊥ = cc in g)
bind_some (Some x) f y e = (x, refl, e)

some_eq : {A : Type 0} {x y : A} → Some x ≡ Some y → x ≡ y
some_eq e = cc

-- a pair that was read, by its parts
pub parts : {A B : Type 0} {x x' : A} {y y' : B} → ◌≡◌ {A = Option (A × B)} (Some (x, y)) (Some (x', y')) → (x ≡ x') × (y ≡ y')
parts e = let h = some_eq e in (ap (λ p. p.0) h, ap (λ p. p.1) h)

pub guard_fails : {A : Type 0} (b : Bool) (o : Option A) (y : A) → cond b None o ≡ Some y → (b ≡ false) × (o ≡ Some y)
guard_fails true o y e = absurd (let g : ⊥ = cc in g)
guard_fails false o y e = (refl, e)

pub guard_holds : {A : Type 0} (b : Bool) (o : Option A) (y : A) → cond b o None ≡ Some y → (b ≡ true) × (o ≡ Some y)
guard_holds true o y e = (refl, e)
guard_holds false o y e = absurd (let g : ⊥ = cc in g)

-- one arm of a choice by a number
pub choice : {A : Type 0} (n k : ℕ) (o other : Option A) (y : A) → cond (eqb n k) o other ≡ Some y → ((n ≡ k) × (o ≡ Some y)) ⊎ (other ≡ Some y)
choice n k o other y e =
    let cases : (b : Bool) → eqb n k ≡ b → cond b o other ≡ Some y → ((n ≡ k) × (o ≡ Some y)) ⊎ (other ≡ Some y) = elim [ true ↦ λ q h. inl (eqb-true n k q, h) | false ↦ λ q h. inr h ] in
    cases (eqb n k) refl e

pub bytes_take : (n : ℕ) (bs : List ℕ) → AreBytes bs → AreBytes (take n bs)
bytes_take zero bs h i = omega arith
bytes_take (suc n) [] h i = omega arith
bytes_take (suc n) (b ∷ bs) h zero = h 0
bytes_take (suc n) (b ∷ bs) h (suc i) = bytes_take n bs (λ j. h (suc j)) i

pub bytes_drop : (n : ℕ) (bs : List ℕ) → AreBytes bs → AreBytes (drop n bs)
bytes_drop zero bs h i = h i
bytes_drop (suc n) [] h i = omega arith
bytes_drop (suc n) (b ∷ bs) h i = bytes_drop n bs (λ j. h (suc j)) i

pub bytes_append : (xs ys : List ℕ) → AreBytes xs → AreBytes ys → AreBytes (xs ++ ys)
bytes_append [] ys h k i = k i
bytes_append (x ∷ xs) ys h k zero = h 0
bytes_append (x ∷ xs) ys h k (suc i) = bytes_append xs ys (λ j. h (suc j)) k i

-- the reader gives valid values alone, and each is spelled at the front
abbrev pub Found : {V : Type 0} → (V → Type 0) → (V → List ℕ) → Reader V → Type 0
Found {V = V} IsValue spelling at = (bs rest : List ℕ) (v : V) → AreBytes bs → at bs ≡ Some (v, rest) → Takes bs (spelling v) rest × IsValue v

-- the same, if the tag stands before the bytes
abbrev pub FoundBehind : {V : Type 0} → ℕ → (V → Type 0) → (V → List ℕ) → Reader V → Type 0
FoundBehind {V = V} tag IsValue spelling at = (bs rest : List ℕ) (v : V) → AreBytes bs → at bs ≡ Some (v, rest) → Takes (tag ∷ bs) (spelling v) rest × IsValue v

-- a value that is spelled is read
abbrev pub Again : {V : Type 0} → (V → Type 0) → (V → List ℕ) → Reader V → Type 0
Again {V = V} IsValue spelling at = (v : V) (rest : List ℕ) → IsValue v → at (spelling v ++ rest) ≡ Some (v, rest)

pub moved : {V : Type 0} (IsValue : V → Type 0) (spelling : V → List ℕ) (bs : List ℕ) {v w : V} {r rest : List ℕ} → Takes bs (spelling w) r × IsValue w → w ≡ v → r ≡ rest → Takes bs (spelling v) rest × IsValue v
moved IsValue spelling bs {v} {w} {r} {rest} h p q =
    subst (λ x. Takes bs (spelling x) rest × IsValue x) p (subst (λ x. Takes bs (spelling w) x × IsValue w) q h)

pub byte_found : Found (λ b. b < 256) (λ b. b ∷ []) byte_at
byte_found [] rest b h e = absurd (let g : ⊥ = cc in g)
byte_found (c ∷ bs) rest b h e =
    let p = parts e in
    (record { whole = rw (p.0, p.1) refl; bytes = subst AreBytes p.1 (λ i. h (suc i)) }, subst (λ x. x < 256) p.0 (h 0))

-- a value whose spelling is a tag and then the spelling of another value
pub as_found : {A B : Type 0} (IsA : A → Type 0) (IsB : B → Type 0) (a_spelling : A → List ℕ) (b_spelling : B → List ℕ) (tag : ℕ) (f : A → B) (at : Reader A)
    → Found IsA a_spelling at → ((x : A) → IsA x → (b_spelling (f x) ≡ tag ∷ a_spelling x) × IsB (f x)) → FoundBehind tag IsB b_spelling (read_as f at)
as_found IsA IsB a_spelling b_spelling tag f at reads law bs rest v h e =
    let k = bind_some (at bs) (λ x. Some (f x.0, x.1)) (v, rest) e in
    let a = reads bs k.0.1 k.0.0 h k.1 in
    let p = parts k.2 in
    let l = law k.0.0 a.1 in
    moved IsB b_spelling (tag ∷ bs) (record { whole = ap (λ xs. tag ∷ xs) a.0.whole ∙ ap (λ xs. xs ++ k.0.1) (sym l.0); bytes = a.0.bytes }, l.1) p.0 p.1

pub as_again : {A B : Type 0} (f : A → B) (at : Reader A) (bs rest : List ℕ) (x : A) → at bs ≡ Some (x, rest) → read_as f at bs ≡ Some (f x, rest)
as_again f at bs rest x e = rw e refl

-- a value that is its tag alone
pub tag_found : {B : Type 0} (IsB : B → Type 0) (b_spelling : B → List ℕ) (tag : ℕ) (v : B) → b_spelling v ≡ tag ∷ [] → IsB v → FoundBehind tag IsB b_spelling (λ bs. Some (v, bs))
tag_found IsB b_spelling tag v s valid bs rest w h e =
    let p = parts e in
    moved IsB b_spelling (tag ∷ bs) (record { whole = ap (λ xs. xs ++ bs) (sym s); bytes = h }, valid) p.0 p.1

-- a value that a tag leads
pub behind_found : {V : Type 0} (IsValue : V → Type 0) (spelling : V → List ℕ) (behind : ℕ → Reader V) → ((tag : ℕ) → FoundBehind tag IsValue spelling (behind tag))
    → Found IsValue spelling (λ bs. byte_at bs >>= λ x. behind x.0 x.1)
behind_found IsValue spelling behind reads bs rest v h e =
    let k = bind_some (byte_at bs) (λ x. behind x.0 x.1) (v, rest) e in
    let a = byte_found bs k.0.1 k.0.0 h k.1 in
    let p = reads k.0.0 k.0.1 rest v a.0.bytes k.2 in
    (record { whole = a.0.whole ∙ p.0.whole; bytes = p.0.bytes }, p.1)

-- the tag that was tested
pub at_tag : {V : Type 0} (IsValue : V → Type 0) (spelling : V → List ℕ) (tag k : ℕ) (bs rest : List ℕ) (v : V) → tag ≡ k → Takes (k ∷ bs) (spelling v) rest × IsValue v → Takes (tag ∷ bs) (spelling v) rest × IsValue v
at_tag IsValue spelling tag k bs rest v p t = subst (λ n. Takes (n ∷ bs) (spelling v) rest × IsValue v) (sym p) t

-- Each row of a table gives values whose spelling is the row's tag and the bytes that it read.
abbrev pub RowsFound : {V : Type 0} → (V → Type 0) → (V → List ℕ) → List (TaggedReader V) → Type 0
RowsFound IsValue spelling [] = Unit {0}
RowsFound IsValue spelling (row ∷ rows) = FoundBehind row.0 IsValue spelling row.1 × RowsFound IsValue spelling rows

-- the first row, and then the others
infixr 3 ◌⨾◌
pub ◌⨾◌ : {A B : Type 0} → A → B → A × B
row ⨾ rows = (row, rows)

-- The law of tables: if each row, and the reader for other tags, gives spelled values, the table does.
pub found_by_table : {V : Type 0} (IsValue : V → Type 0) (spelling : V → List ℕ) (rows : List (TaggedReader V)) (other : ℕ → Reader V) → RowsFound IsValue spelling rows
    → ((tag : ℕ) → FoundBehind tag IsValue spelling (other tag)) → (tag : ℕ) → FoundBehind tag IsValue spelling (by_tag rows other tag)
found_by_table IsValue spelling [] other found otherwise tag bs rest v h e = otherwise tag bs rest v h e
found_by_table IsValue spelling (row ∷ rows) other found otherwise tag bs rest v h e =
    elim (choice tag row.0 (row.1 bs) (by_tag rows other tag bs) (v, rest) e) [
      | inl k ↦ at_tag IsValue spelling tag row.0 bs rest v k.0 (found.0 bs rest v h k.1)
      | inr f ↦ found_by_table IsValue spelling rows other found.1 otherwise tag bs rest v h f
    ]

pub unknown_found : {V : Type 0} (IsValue : V → Type 0) (spelling : V → List ℕ) (tag : ℕ) → FoundBehind tag IsValue spelling (unknown tag)
unknown_found IsValue spelling tag bs rest v h e = absurd (let g : ⊥ = cc in g)

-- Values that are collected one after another: their spelling, their count, and that they stay valid.
pub record Grows {X S : Type 0} (IsX : X → Type 0) (x_spelling : X → List ℕ) (grow : S → X → S) (IsS : S → Type 0) (s_spelling : S → List ℕ) (count : S → ℕ) : Type 0 where
  pub spelled : (s : S) (x : X) → s_spelling (grow s x) ≡ s_spelling s ++ x_spelling x
  pub counted : (s : S) (x : X) → count (grow s x) ≡ count s + 1
  pub valid : (s : S) (x : X) → IsS s → IsX x → IsS (grow s x)

-- u is s with n more, which stood at the front of bs
pub record Onto {S : Type 0} (IsS : S → Type 0) (s_spelling : S → List ℕ) (count : S → ℕ) (s u : S) (n : ℕ) (bs rest : List ℕ) : Type 0 where
  pub whole : s_spelling s ++ bs ≡ s_spelling u ++ rest
  pub bytes : AreBytes rest
  pub number : count u ≡ count s + n
  pub valid : IsS u

module _ {X S : Type 0} (IsX : X → Type 0) (x_spelling : X → List ℕ) (grow : S → X → S) (IsS : S → Type 0) (s_spelling : S → List ℕ) (count : S → ℕ) (at : Reader X) where
  pub more_found : Grows IsX x_spelling grow IsS s_spelling count → Found IsX x_spelling at → (n : ℕ) (s u : S) (bs rest : List ℕ) → AreBytes bs → IsS s → more at grow n s bs ≡ Some (u, rest)
      → Onto IsS s_spelling count s u n bs rest
  more_found grows reads zero s u bs rest h d e =
      let p = parts e in
      record {
        whole = ap (λ x. s_spelling x ++ bs) p.0 ∙ ap (λ xs. s_spelling u ++ xs) p.1;
        bytes = subst AreBytes p.1 h;
        number = ap count (sym p.0) ∙ omega arith;
        valid = subst IsS p.0 d;
      }
  more_found grows reads (suc n) s u bs rest h d e =
      let k = bind_some (at bs) (λ x. more at grow n (grow s x.0) x.1) (u, rest) e in
      let x = k.0.0 in
      let after = k.0.1 in
      let a = reads bs after x h k.1 in
      let r = more_found grows reads n (grow s x) u after rest a.0.bytes (grows.valid s x d a.1) k.2 in
      record {
        whole = ap (λ xs. s_spelling s ++ xs) a.0.whole ∙ sym (append_assoc (s_spelling s) (x_spelling x) after) ∙ ap (λ xs. xs ++ after) (sym (grows.spelled s x)) ∙ r.whole;
        bytes = r.bytes;
        number = omega (arith, r.number, grows.counted s x);
        valid = r.valid;
      }

-- A value within the first bytes.
pub framed_found : {V : Type 0} (IsValue : V → Type 0) (spelling : V → List ℕ) (limit : ℕ) (at : Reader V) → Found IsValue spelling at → Found (λ v. IsValue v × (length (spelling v) ≤ limit)) spelling (framed limit at)
unfolding framed
framed_found IsValue spelling limit at reads bs rest v h e =
    let k = bind_some (at (take limit bs)) (λ x. Some (x.0, x.1 ++ drop limit bs)) (v, rest) e in
    let a = reads (take limit bs) k.0.1 k.0.0 (bytes_take limit bs h) k.1 in
    let p = parts k.2 in
    let w : bs ≡ spelling k.0.0 ++ (k.0.1 ++ drop limit bs) = sym (take-append-drop limit bs) ∙ ap (λ xs. xs ++ drop limit bs) a.0.whole ∙ append_assoc (spelling k.0.0) k.0.1 (drop limit bs) in
    let l : length (spelling k.0.0) ≤ limit = omega (arith, ap length a.0.whole, length-append (spelling k.0.0) k.0.1, length-take limit bs) in
    moved (λ v. IsValue v × (length (spelling v) ≤ limit)) spelling bs (record { whole = w; bytes = bytes_append k.0.1 (drop limit bs) a.0.bytes (bytes_drop limit bs h) }, (a.1, l)) p.0 p.1

-- the first bytes of a text and what follows it, and the rest
framed_text : (s rest : List ℕ) (limit : ℕ) → length s ≤ limit → (take limit (s ++ rest) ≡ s ++ take (limit - length s) rest) × (drop limit (s ++ rest) ≡ drop (limit - length s) rest)
framed_text s rest limit p =
    let n : length s + (limit - length s) ≡ limit = omega arith in
    (ap (λ m. take m (s ++ rest)) (sym n) ∙ take-append-add s rest (limit - length s), ap (λ m. drop m (s ++ rest)) (sym n) ∙ drop-append-add s rest (limit - length s))

pub framed_again : {V : Type 0} (s : List ℕ) (v : V) (limit : ℕ) (at : Reader V) (rest : List ℕ) → length s ≤ limit → ((after : List ℕ) → at (s ++ after) ≡ Some (v, after)) → framed limit at (s ++ rest) ≡ Some (v, rest)
unfolding framed
framed_again s v limit at rest p again =
    let t = framed_text s rest limit p in
    let e : at (take limit (s ++ rest)) ≡ Some (v, take (limit - length s) rest) = ap at t.0 ∙ again (take (limit - length s) rest) in
    rw (e, t.1, take-append-drop (limit - length s) rest) refl

-- Steps of reading that may fail, and of reading within the first bytes.
use Rattle.std.proofs.Common.{◌≡◌, ℕ, ◌+◌, ◌-◌, ◌<◌, ◌≤◌, List, [], ◌++◌, length, take, drop, Some, false, ap, refl}
use Rattle.std.proofs.Common.{sym, ◌∙◌, arith, append_assoc, length-append}
use Rattle.std.proofs.lemmas.Bool.{le-ltb}
use Rattle.std.proofs.lemmas.List.{take-append-drop, drop_at, length-take}
use lib.Dec.{ltb}
use Rattle.tuple_tree.specs.Values.{TupleTree, AreBytes}
use Rattle.tuple_codec.specs.Results.{DecodingFails}
use Rattle.tuple_codec.specs.declared.bad.Bad.{Bad}
use Rattle.tuple_codec.specs.declared.bad.Bad.TheVariants as bad
use Rattle.tuple_tree.specs.Reading.{Reader, more, byte_at, framed, tuple_at}
use Rattle.tuple_codec.specs.Reading.{with_last_tuple, tuples_at}
use Rattle.tuple_tree.proofs.Readers.{Found, bytes_take}
use Rattle.tuple_tree.proofs.Steps.{step}

module _ {X S : Type 0} (at : Reader X) (grow : S → X → S) where
  pub one_fails : (e : Bad) (n i : ℕ) (s : S) (bs : List ℕ) → i < n → DecodingFails e (at bs) → DecodingFails e (more at grow (n - i) s bs)
  one_fails bad.NoMemory n i s bs p h = tt
  one_fails bad.Malformed n i s bs p h = step at grow n i s bs p ∙ rw h refl

-- the same of tuples
pub whole_tuples : (bs front rest : List ℕ) (n i : ℕ) (ts : List TupleTree) → byte_at bs ≡ Some (n, front) → n ≤ 64
    → more tuple_at with_last_tuple (n - i) ts rest ≡ more tuple_at with_last_tuple n [] front → more tuple_at with_last_tuple (n - i) ts rest ≡ tuples_at bs
unfolding tuples_at
whole_tuples bs front rest n i ts e p h = let l : ltb 64 n ≡ false = le-ltb 64 n p in h ∙ sym (rw (e, l) refl)

-- The bytes after a value that was read within the first bytes.
pub frame_rest : (bs text rest : List ℕ) (limit : ℕ) → take limit bs ≡ text ++ rest → (length rest ≤ length (take limit bs)) × (drop (length (take limit bs) - length rest) bs ≡ rest ++ drop limit bs)
frame_rest bs text rest limit e =
    let n : length (take limit bs) ≡ length text + length rest = ap length e ∙ length-append text rest in
    let m : length text ≡ length (take limit bs) - length rest = omega (arith, n) in
    let w : bs ≡ text ++ (rest ++ drop limit bs) = sym (take-append-drop limit bs) ∙ ap (λ xs. xs ++ drop limit bs) e ∙ append_assoc text rest (drop limit bs) in
    (omega (arith, n), ap (drop (length (take limit bs) - length rest)) w ∙ drop_at text (rest ++ drop limit bs) (length (take limit bs) - length rest) m)

pub framed_there : {V : Type 0} (at : Reader V) (bs rest : List ℕ) (limit : ℕ) (v : V) → at (take limit bs) ≡ Some (v, rest) → framed limit at bs ≡ Some (v, rest ++ drop limit bs)
unfolding framed
framed_there at bs rest limit v e = rw e refl

pub framed_fails : {V : Type 0} (e : Bad) (at : Reader V) (bs : List ℕ) (limit : ℕ) → DecodingFails e (at (take limit bs)) → DecodingFails e (framed limit at bs)
unfolding framed
framed_fails bad.NoMemory at bs limit h = tt
framed_fails bad.Malformed at bs limit h = rw h refl

-- a reader at the front, by how many of its bytes are left
pub frame_read : {V : Type 0} (IsValue : V → Type 0) (spelling : V → List ℕ) (limit : ℕ) (at : Reader V) (bs front rest : List ℕ) (v : V) → Found IsValue spelling at → AreBytes bs → front ≡ take limit bs → at front ≡ Some (v, rest)
    → (length rest ≤ length front) × (length front - length rest ≤ length bs) × (framed limit at bs ≡ Some (v, drop (length front - length rest) bs))
frame_read IsValue spelling limit at bs front rest v reads h f e =
    let e' : at (take limit bs) ≡ Some (v, rest) = ap at (sym f) ∙ e in
    let a = reads (take limit bs) rest v (bytes_take limit bs h) e' in
    let r = frame_rest bs (spelling v) rest limit a.0.whole in
    let l : length front ≡ length (take limit bs) = ap length f in
    let d : drop (length front - length rest) bs ≡ rest ++ drop limit bs = ap (λ n. drop (n - length rest) bs) l ∙ r.1 in
    (omega (arith, r.0, l), omega (arith, l, length-take limit bs), framed_there at bs rest limit v e' ∙ ap (λ xs. Some (v, xs)) (sym d))

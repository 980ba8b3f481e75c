-- Reading meets the grammar, from both sides.
use Rattle.std.proofs.Common.{◌≡◌, ℕ, ◌-◌, ◌≤◌, List, [], ◌++◌, length, take, drop, Some, None, ap, sym, refl, ◌∙◌}
use Rattle.std.proofs.Common.{arith, append-nil, length-append}
use Rattle.std.proofs.lemmas.List.{take_at, take-append-drop, length-drop}
use Rattle.tuple_tree.specs.Values.{AreBytes, IsDatum, IsSlot, datum_length, slot_length, IsTuple, IsTemplate}
use Rattle.tuple_tree.specs.Reading.{Reader, datum_at, slot_at, tuple_at, template_at}
use Rattle.tuple_tree.specs.Spelling.{datum_spelling, slot_spelling, tuple_spelling, template_spelling}
use Rattle.tuple_codec.specs.Spelling.{Spells, FrontSpells}
use Rattle.tuple_codec.specs.Results.{DecodingFails}
use Rattle.tuple_codec.specs.declared.bad.Bad.{Bad}
use Rattle.tuple_codec.specs.declared.bad.Bad.TheVariants as bad
use Rattle.tuple_tree.proofs.Readers.{Found, Again, parts}
use Rattle.tuple_tree.proofs.Leaves.{datum_leaves, slot_leaves}
use Rattle.tuple_tree.proofs.Trees.{tree_found, tree_again}

pub record Reads {V : Type 0} (IsValue : V → Type 0) (spelling : V → List ℕ) (at : Reader V) : Type 0 where
  pub found : Found IsValue spelling at
  pub again : Again IsValue spelling at

module _ {V : Type 0} (IsValue : V → Type 0) (spelling : V → List ℕ) (at : Reader V) (reads : Reads IsValue spelling at) where
  pub shorter : (bs rest : List ℕ) (v : V) → AreBytes bs → at bs ≡ Some (v, rest) → length rest ≤ length bs
  shorter bs rest v h e = let f = reads.found bs rest v h e in omega (arith, ap length f.0.whole, length-append (spelling v) rest)

  pub spelled : (bs rest : List ℕ) (v : V) → AreBytes bs → at bs ≡ Some (v, rest) → Spells IsValue spelling (take (length bs - length rest) bs) v
  spelled bs rest v h e =
      let f = reads.found bs rest v h e in
      let n : length (spelling v) ≡ length bs - length rest = omega (arith, ap length f.0.whole, length-append (spelling v) rest) in
      record { valid = f.1; spelled = ap (take (length bs - length rest)) f.0.whole ∙ take_at (spelling v) rest (length bs - length rest) n }

  -- a value that the reader gives is spelled at the front
  pub front : (bs rest : List ℕ) (v : V) → AreBytes bs → at bs ≡ Some (v, rest) → FrontSpells IsValue spelling bs
  front bs rest v h e = (v, length bs - length rest, omega arith, spelled bs rest v h e)

  -- if the first k bytes spell a value, the reader gives that value
  pub only : (bs : List ℕ) (v : V) (k : ℕ) → Spells IsValue spelling (take k bs) v → at bs ≡ Some (v, drop k bs)
  only bs v k s = ap at (sym (take-append-drop k bs) ∙ ap (λ xs. xs ++ drop k bs) s.spelled) ∙ reads.again v (drop k bs) s.valid

  pub only_ok : (bs rest : List ℕ) (v w : V) (k : ℕ) → at bs ≡ Some (v, rest) → k ≤ length bs → Spells IsValue spelling (take k bs) w → (v ≡ w) × (length bs - length rest ≡ k)
  only_ok bs rest v w k e p s =
      let h = parts (sym e ∙ only bs w k s) in
      (h.0, omega (arith, ap length h.1, length-drop k bs))

  pub only_err : (bs : List ℕ) (e : Bad) (w : V) (k : ℕ) → DecodingFails e (at bs) → Spells IsValue spelling (take k bs) w → e ≡ bad.NoMemory
  only_err bs bad.NoMemory w k h s = refl
  only_err bs bad.Malformed w k h s = absurd (let e : None ≡ Some (w, drop k bs) = sym h ∙ only bs w k s in cc)

  -- the whole of the bytes
  pub all_spelled : (bs : List ℕ) (v : V) → AreBytes bs → at bs ≡ Some (v, []) → Spells IsValue spelling bs v
  all_spelled bs v h e = let f = reads.found bs [] v h e in record { valid = f.1; spelled = f.0.whole ∙ append-nil (spelling v) }

  pub all_read : (bs : List ℕ) (v : V) → Spells IsValue spelling bs v → at bs ≡ Some (v, [])
  all_read bs v s = ap at (s.spelled ∙ sym (append-nil (spelling v))) ∙ reads.again v [] s.valid

  -- no spelling begins another one, and each stands for one value
  pub one : (a b x y : List ℕ) (v w : V) → Spells IsValue spelling a v → Spells IsValue spelling b w → a ++ x ≡ b ++ y → (a ≡ b) × (v ≡ w)
  one a b x y v w s t e =
      let h = parts (sym (reads.again v x s.valid) ∙ ap at (ap (λ xs. xs ++ x) (sym s.spelled) ∙ e ∙ ap (λ xs. xs ++ y) t.spelled) ∙ reads.again w y t.valid) in
      (s.spelled ∙ ap spelling h.0 ∙ sym t.spelled, h.0)

pub tuple_reads : Reads IsTuple tuple_spelling tuple_at
tuple_reads = record { found = tree_found IsDatum datum_length datum_spelling datum_at datum_leaves; again = tree_again IsDatum datum_length datum_spelling datum_at datum_leaves }

pub template_reads : Reads IsTemplate template_spelling template_at
template_reads = record { found = tree_found IsSlot slot_length slot_spelling slot_at slot_leaves; again = tree_again IsSlot slot_length slot_spelling slot_at slot_leaves }

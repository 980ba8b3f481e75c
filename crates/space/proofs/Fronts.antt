-- What stands at the front of a page's text.
use Rattle.std.proofs.Common.{◌≡◌, ℕ, ◌^◌, ◌≤◌, ◌<◌, List, [], ◌∷◌, ◌++◌, length, take, drop, get_or, suc, Some, None}
use Rattle.std.proofs.Common.{refl, sym, ap, subst, ◌∙◌, arith, length-append, append_assoc}
use Rattle.std.specs.Int.{w64, to_be_bytes}
use Rattle.std.specs.Prelude.{cond}
use Rattle.std.proofs.lemmas.Bool.{le-ltb}
use Rattle.std.proofs.lemmas.List.{take_at, drop_at, take-append-drop, length-drop, drop_all}
use Rattle.byteorder.specs.Endian.{big_number}
use Rattle.byteorder.specs.Numbers.{big_number-reads_back, big_from-lt}
use Rattle.tuple_tree.specs.Values.{TupleTree, AreBytes, IsTuple}
use Rattle.tuple_tree.specs.Spelling.{tuple_spelling}
use Rattle.tuple_codec.specs.Spelling.{SpellsTuple}
use Rattle.tuple_tree.specs.Reading.{number_of}
use Rattle.tuple_tree.proofs.Readers.{bytes_drop}
use Rattle.tuple_tree.proofs.Numbers.{number_found}
use Rattle.space.specs.Births.{BornTuple}
use Rattle.space.specs.Pages.{stored_text, entry_text}
use Rattle.space.specs.Reading.{IsEntry, IsHeader}
use Rattle.space.specs.declared.version.Version.{Version}
use Rattle.space.specs.declared.version.Version.TheVariants as versions
use Rattle.space.proofs.Determining.{stored_split, entry_split}

-- eight bytes are those of the number that they make
pub number_front : (bs : List ℕ) → 8 ≤ length bs → AreBytes bs → bs ≡ to_be_bytes w64 (big_number 8 bs) ++ drop 8 bs
unfolding number_of
number_front bs l h =
    let read : number_of 8 bs ≡ Some (big_number 8 bs, drop 8 bs) = ap (λ b. cond b None (Some (big_number 8 bs, drop 8 bs))) (le-ltb (length bs) 8 l) in
    (number_found 8 bs (drop 8 bs) (big_number 8 bs) h read).0.whole

pub number_again : (n : ℕ) (rest : List ℕ) → n < 2 ^ 64 → big_number 8 (to_be_bytes w64 n ++ rest) ≡ n
number_again n rest l = big_number-reads_back 8 n rest l

-- ---- a tuple as it stands on a page

-- In version 1: the tuple was read, and the bytes behind it.
module _ (text rest : List ℕ) (k : ℕ) (t : TupleTree) (spelled : SpellsTuple (take k text) t) (is_rest : rest ≡ drop k text) where
  pub tuple_found : IsTuple t × (text ≡ tuple_spelling t ++ rest)
  tuple_found =
      (spelled.valid, sym (take-append-drop k text) ∙ ap (λ xs. xs ++ drop k text) spelled.spelled ∙ ap (λ xs. tuple_spelling t ++ xs) (sym is_rest))

  pub tuple_only : (r : TupleTree) (after : List ℕ) → IsTuple r → text ≡ tuple_spelling r ++ after → (t ≡ r) × (rest ≡ after)
  tuple_only r after valid is = stored_split versions.One t r rest after spelled.valid valid (sym tuple_found.1 ∙ is)

module _ (text : List ℕ) (t : TupleTree) (rest : List ℕ) (valid : IsTuple t) (is : text ≡ tuple_spelling t ++ rest) where
  pub tuple_within : length (tuple_spelling t) ≤ length text
  tuple_within = omega (arith, ap length is, length-append (tuple_spelling t) rest)

  pub tuple_spelled : SpellsTuple (take (length (tuple_spelling t)) text) t
  tuple_spelled = record { valid = valid; spelled = ap (take (length (tuple_spelling t))) is ∙ take_at (tuple_spelling t) rest (length (tuple_spelling t)) refl }

-- ---- an entry

-- An entry that was read by its parts.
module _ (v : Version) (bs text rest : List ℕ) (birth : ℕ) (t : TupleTree) (long : 8 ≤ length bs) (bytes : AreBytes bs) (is_birth : birth ≡ big_number 8 bs) (is_text : text ≡ drop 8 bs)
    (read : IsTuple t × (text ≡ stored_text v t ++ rest)) where
  pub entry_found : IsEntry (birth, t) × (bs ≡ entry_text v (birth, t) ++ rest)
  entry_found =
      let fits : birth < 2 ^ 64 = subst (λ n. n < 2 ^ 64) (sym is_birth) (big_from-lt 0 8 bs bytes) in (
        record { fits = fits; tuple = read.0 },
        number_front bs long bytes ∙ ap (λ n. to_be_bytes w64 n ++ drop 8 bs) (sym is_birth) ∙ ap (λ xs. to_be_bytes w64 birth ++ xs) (sym is_text ∙ read.1)
            ∙ sym (append_assoc (to_be_bytes w64 birth) (stored_text v t) rest),
      )

  pub entry_only : (e : BornTuple) (after : List ℕ) → IsEntry e → bs ≡ entry_text v e ++ after → ((birth, t) ≡ e) × (rest ≡ after)
  entry_only e after valid is = entry_split v (birth, t) e rest after entry_found.0 valid (sym entry_found.1 ∙ is)

-- where the tuple of an entry stands
pub behind_birth : (v : Version) (bs text : List ℕ) (e : BornTuple) (rest : List ℕ) → text ≡ drop 8 bs → bs ≡ entry_text v e ++ rest → text ≡ stored_text v e.1 ++ rest
behind_birth v bs text e rest is_text is =
    is_text ∙ ap (drop 8) (is ∙ append_assoc (to_be_bytes w64 e.0) (stored_text v e.1) rest) ∙ drop_at (to_be_bytes w64 e.0) (stored_text v e.1 ++ rest) 8 refl

-- The numbers of a header.
pub header_found : (h front behind : List ℕ) (first number next : ℕ) → length h ≡ 17 → AreBytes h → get_or h 0 0 ≡ first → front ≡ drop 1 h → behind ≡ drop 9 h
    → number ≡ big_number 8 front → next ≡ big_number 8 behind → h ≡ first ∷ to_be_bytes w64 number ++ to_be_bytes w64 next
header_found [] front behind first number next l b v f g p q = absurd (omega arith)
header_found (x ∷ xs) front behind first number next l b v f g p q =
    let one : xs ≡ to_be_bytes w64 (big_number 8 xs) ++ drop 8 xs = number_front xs (omega arith) (λ i. b (suc i)) in
    let two : drop 8 xs ≡ to_be_bytes w64 (big_number 8 (drop 8 xs)) ++ drop 8 (drop 8 xs) =
    number_front (drop 8 xs) (omega (arith, length-drop 8 xs)) (bytes_drop 8 xs (λ i. b (suc i))) in
    let none : drop 8 (drop 8 xs) ≡ [] = drop_all 8 (drop 8 xs) (omega (arith, length-drop 8 xs)) in
    let n : number ≡ big_number 8 xs = p ∙ ap (big_number 8) f in
    let m : next ≡ big_number 8 (drop 8 xs) = q ∙ ap (big_number 8) g in
    let rest : drop 8 xs ≡ to_be_bytes w64 next = two ∙ ap (λ bs. to_be_bytes w64 (big_number 8 (drop 8 xs)) ++ bs) none ∙ ap (to_be_bytes w64) (sym m) in
    ap (λ y. y ∷ xs) v ∙ ap (λ ys. first ∷ ys) (one ∙ ap (λ k. to_be_bytes w64 k ++ drop 8 xs) (sym n) ∙ ap (λ ys. to_be_bytes w64 number ++ ys) rest)

pub header_numbers : (h front behind : List ℕ) (v : Version) (number next a b : ℕ) → front ≡ drop 1 h → behind ≡ drop 9 h → number ≡ big_number 8 front → next ≡ big_number 8 behind
    → IsHeader h v a b → (number ≡ a) × (next ≡ b)
header_numbers h front behind v number next a b f g p q is =
    let few = is.few in
    let births = is.births in (
      p ∙ ap (big_number 8) (f ∙ ap (drop 1) is.spelled) ∙ number_again a (to_be_bytes w64 b) (omega arith),
      q ∙ ap (big_number 8) (g ∙ ap (drop 9) is.spelled) ∙ number_again b [] (omega arith),
    )

-- Numbers, strings and flags at the front of bytes.
use Rattle.std.proofs.Common.{◌≡◌, inl, inr, ℕ, zero, suc, ◌+◌, ◌*◌, ◌^◌, ◌<◌, ◌≤◌, Bool, true, false, cond}
use Rattle.std.proofs.Common.{if◌then◌else◌, List, [], ◌∷◌, ◌++◌, length, take, drop, Some, None, ap, sym, refl, ◌∙◌}
use Rattle.std.proofs.Common.{arith, append_assoc, append-nil, length-append}
use Rattle.std.proofs.lemmas.List.{take-append-drop, length-take, length-take-le, take_at, drop_at}
use Rattle.std.proofs.lemmas.Nat.{same_from_place}
use Rattle.std.proofs.lemmas.Bool.{ltb-false, le-ltb, lt-ltb, eqb-true}
use Rattle.std.proofs.lemmas.Str.{IsUtf8-from_is_utf8, is_utf8-from_IsUtf8}
use Rattle.std.specs.Int.{w16, to_be_bytes}
use Rattle.std.specs.Str.{IsUtf8, is_utf8}
use lib.Dec.{ltb, eqb}
use Rattle.byteorder.specs.Endian.{big_from, big_number, big_bytes}
use Rattle.byteorder.specs.Numbers.{big_number-reads_back, big_from-lt, big_from-take, big_from-cons}
use Rattle.byteorder.specs.Numbers.{length-bytes_high_first}
use Rattle.tuple_tree.specs.Values.{AreBytes}
use Rattle.tuple_tree.specs.Reading.{◌>>=◌, byte_at, bytes_at, number_of, string_at, text_at, flag_of, flag_at}
use Rattle.tuple_tree.specs.Spelling.{string, flag}
use Rattle.tuple_tree.proofs.Readers.{Takes, Found, Again, bind_some, parts, guard_fails, guard_holds, choice}
use Rattle.tuple_tree.proofs.Readers.{bytes_take, bytes_drop, byte_found, moved}
use Rattle.tuple_tree.proofs.NumberBytes.{high_bytes}

-- So many bytes are those that their number is made of.
same_bytes : (k : ℕ) (xs ys : List ℕ) → length xs ≡ k → length ys ≡ k → AreBytes xs → AreBytes ys → big_number k xs ≡ big_number k ys → xs ≡ ys
same_bytes zero [] [] l m a b e = refl
same_bytes zero [] (y ∷ ys) l m a b e = absurd (omega arith)
same_bytes zero (x ∷ xs) ys l m a b e = absurd (omega arith)
same_bytes (suc k) [] ys l m a b e = absurd (omega arith)
same_bytes (suc k) (x ∷ xs) [] l m a b e = absurd (omega arith)
same_bytes (suc k) (x ∷ xs) (y ∷ ys) l m a b e =
    let below : (zs : List ℕ) (z : ℕ) → z * 256 ^ k + big_from 1 k (z ∷ zs) ≡ z * 256 ^ k + big_number k zs = λ zs z. ap (λ n. z * 256 ^ k + n) (big_from-cons 0 k z zs) in
    let p = same_from_place x (big_number k xs) y (big_number k ys) (256 ^ k) (big_from-lt 0 k xs (λ i. a (suc i))) (big_from-lt 0 k ys (λ i. b (suc i))) (sym (below xs x) ∙ e ∙ below ys y) in
    let q = same_bytes k xs ys (omega arith) (omega arith) (λ i. a (suc i)) (λ i. b (suc i)) p.1 in
    ap (λ z. z ∷ xs) p.0 ∙ ap (λ zs. y ∷ zs) q

whole : (k : ℕ) (bs : List ℕ) → k ≤ length bs → AreBytes bs → bs ≡ big_bytes k (big_number k bs) ++ drop k bs
whole k bs l h =
    let n = big_number k bs in
    let front : big_number k (take k bs) ≡ n = big_from-take 0 k k bs (omega arith) in
    let again : big_number k (big_bytes k n) ≡ n = ap (big_number k) (sym (append-nil (big_bytes k n))) ∙ big_number-reads_back k n [] (big_from-lt 0 k bs h) in
    let same : take k bs ≡ big_bytes k n = same_bytes k (take k bs) (big_bytes k n) (length-take-le k bs l) (length-bytes_high_first k n) (bytes_take k bs h) (high_bytes k n) (front ∙ sym again) in
    sym (take-append-drop k bs) ∙ ap (λ xs. xs ++ drop k bs) same

pub number_found : (k : ℕ) → Found (λ n. n < 256 ^ k) (big_bytes k) (number_of k)
unfolding number_of
number_found k bs rest n h e =
    let g = guard_fails (ltb (length bs) k) (Some (big_number k bs, drop k bs)) (n, rest) e in
    let p = parts g.1 in
    moved (λ n. n < 256 ^ k) (big_bytes k) bs (record { whole = whole k bs (ltb-false _ _ g.0) h; bytes = bytes_drop k bs h }, big_from-lt 0 k bs h) p.0 p.1

pub number_again : (k : ℕ) → Again (λ n. n < 256 ^ k) (big_bytes k) (number_of k)
unfolding number_of
number_again k n rest p =
    let l : ltb (length (big_bytes k n ++ rest)) k ≡ false = le-ltb _ k (omega (arith, length-append (big_bytes k n) rest, length-bytes_high_first k n)) in
    rw (l, big_number-reads_back k n rest p, drop_at (big_bytes k n) rest k (length-bytes_high_first k n)) refl

-- the number that is read if there are bytes enough
pub number_there : (k : ℕ) (bs : List ℕ) → k ≤ length bs → number_of k bs ≡ Some (big_number k bs, drop k bs)
unfolding number_of
number_there k bs l = ap (λ b. cond b None (Some (big_number k bs, drop k bs))) (le-ltb _ k l)

pub number_none : (k : ℕ) (bs : List ℕ) → length bs < k → number_of k bs ≡ None
unfolding number_of
number_none k bs l = ap (λ b. cond b None (Some (big_number k bs, drop k bs))) (lt-ltb _ k l)

bytes_found : (n : ℕ) → Found (λ s. (length s ≡ n) × AreBytes s) (λ s. s) (bytes_at n)
unfolding bytes_at
bytes_found n bs rest s h e =
    let k = guard_fails (ltb (length bs) n) (Some (take n bs, drop n bs)) (s, rest) e in
    let p = parts k.1 in
    let l : n ≤ length bs = ltb-false _ _ k.0 in
    moved (λ s. (length s ≡ n) × AreBytes s) (λ s. s) bs
    (record { whole = sym (take-append-drop n bs); bytes = bytes_drop n bs h }, (omega (arith, length-take n bs), bytes_take n bs h)) p.0 p.1

bytes_again : (n : ℕ) (s rest : List ℕ) → length s ≡ n → bytes_at n (s ++ rest) ≡ Some (s, rest)
unfolding bytes_at
bytes_again n s rest e =
    let l : ltb (length (s ++ rest)) n ≡ false = le-ltb (length (s ++ rest)) n (omega (arith, length-append s rest)) in
    rw (l, take_at s rest n e, drop_at s rest n e) refl

pub string_found : Found AreBytes string string_at
unfolding string_at
string_found bs rest s h e =
    let k = bind_some (number_of 2 bs) (λ n. bytes_at n.0 n.1) (s, rest) e in
    let a = number_found 2 bs k.0.1 k.0.0 h k.1 in
    let b = bytes_found k.0.0 k.0.1 rest s a.0.bytes k.2 in
    (record { whole = a.0.whole ∙ ap (λ xs. to_be_bytes w16 k.0.0 ++ xs) b.0.whole ∙ sym (append_assoc (to_be_bytes w16 k.0.0) s rest) ∙ ap (λ n. (to_be_bytes w16 n ++ s) ++ rest) (sym b.1.0); bytes = b.0.bytes }, b.1.1)

pub string_again : (s rest : List ℕ) → length s ≤ 1021 → string_at (string s ++ rest) ≡ Some (s, rest)
unfolding string_at
string_again s rest p =
    ap (λ bs. number_of 2 bs >>= λ n. bytes_at n.0 n.1) (append_assoc (to_be_bytes w16 (length s)) s rest)
    ∙ ap (λ o. o >>= λ n. bytes_at n.0 n.1) (number_again 2 (length s) (s ++ rest) (omega arith)) ∙ bytes_again (length s) s rest refl

pub text_found : Found IsUtf8 string text_at
unfolding text_at
text_found bs rest s h e =
    let k = bind_some (string_at bs) (λ s. cond (is_utf8 s.0) (Some s) None) (s, rest) e in
    let a = string_found bs k.0.1 k.0.0 h k.1 in
    let q = guard_holds (is_utf8 k.0.0) (Some k.0) (s, rest) k.2 in
    let p = parts q.1 in
    moved (IsUtf8) (string) bs (a.0, IsUtf8-from_is_utf8 k.0.0 q.0) p.0 p.1

pub text_again : (s rest : List ℕ) → IsUtf8 s → length s ≤ 1021 → text_at (string s ++ rest) ≡ Some (s, rest)
unfolding text_at
text_again s rest u p =
    ap (λ o. o >>= λ s. if is_utf8 s.0 then Some s else None) (string_again s rest p) ∙ ap (λ b. cond b (Some (s, rest)) None) (is_utf8-from_IsUtf8 s u)

flag_of_found : (b : ℕ) (front rest : List ℕ) (v : Bool) → AreBytes front → flag_of b front ≡ Some (v, rest) → Takes (b ∷ front) (flag v ∷ []) rest × Unit {0}
flag_of_found b front rest v h e = elim (choice b 0 (Some (false, front)) (cond (eqb b 1) (Some (true, front)) None) (v, rest) e) [
  | inl k ↦ let p = parts k.1 in moved (λ v. Unit {0}) (λ v. flag v ∷ []) (b ∷ front) (record { whole = ap (λ n. n ∷ front) k.0; bytes = h }, tt) p.0 p.1
  | inr k ↦ let q = guard_holds (eqb b 1) (Some (true, front)) (v, rest) k in let p = parts q.1 in
      moved (λ v. Unit {0}) (λ v. flag v ∷ []) (b ∷ front) (record { whole = ap (λ n. n ∷ front) (eqb-true b 1 q.0); bytes = h }, tt) p.0 p.1
]

pub flag_found : Found (λ v. Unit {0}) (λ v. flag v ∷ []) flag_at
unfolding flag_at
flag_found bs rest v h e =
    let k = bind_some (byte_at bs) (λ b. flag_of b.0 b.1) (v, rest) e in
    let a = byte_found bs k.0.1 k.0.0 h k.1 in
    let p = flag_of_found k.0.0 k.0.1 rest v a.0.bytes k.2 in
    (record { whole = a.0.whole ∙ p.0.whole; bytes = p.0.bytes }, tt)

pub flag_again : (v : Bool) (rest : List ℕ) → flag_at (flag v ∷ rest) ≡ Some (v, rest)
unfolding flag_at
flag_again true rest = refl
flag_again false rest = refl

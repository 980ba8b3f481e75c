-- A tail of a text, written part after part.
use Rattle.std.proofs.Common.{◌≡◌, ℕ, suc, ◌+◌, ◌-◌, ◌%◌, ◌<◌, ◌≤◌, List, [], ◌∷◌, ◌++◌, length, take, drop, replicate, slice_set, refl, sym, ap, ◌∙◌, arith, length-append, length-take, append_assoc}
use Rattle.std.proofs.lemmas.List.{append-nil, drop_all, drop-replicate, length-replicate, replicate-append-replicate, set_at, take-append-drop, take_at}
use Rattle.std.proofs.lemmas.Slice.{drop-put_mid, take-put_mid}
use Rattle.std.specs.Int.{w64, to_be_bytes}
use Rattle.hash_lanes.specs.Tails.{padded_tail}
use borrow.Rule.Slice.PartMut.{put_mid}

pub tail_written : (rest first second third room : List ℕ) (bits end j k : ℕ) → first ≡ rest → second ≡ 0x80 ∷ replicate ((119 - length rest) % 64) 0
    → third ≡ to_be_bytes w64 bits → end ≡ length rest + length second → length rest ≤ length room
    → take (end + 8) (put_mid end j (put_mid (length rest) k (first ++ drop (length rest) room) second) third) ≡ padded_tail rest bits
tail_written rest first second third room bits end j k is_first is_second is_third at fits =
    let base : List ℕ = first ++ drop (length rest) room in
    let more : List ℕ = put_mid (length rest) k base second in
    let start : take (length rest) base ≡ first = take_at first (drop (length rest) room) (length rest) (ap length is_first) in
    let wide : length rest ≤ length base = omega (arith, length-append first (drop (length rest) room), ap length is_first) in
    let two : take end more ≡ take (length rest) base ++ second = take-put_mid (length rest) k base second end at wide in
    let both : take end more ≡ first ++ second = two ∙ ap (λ (x : List ℕ). x ++ second) start in
    let room_left : end ≤ length more = omega (arith, ap length both, length-take end more, length-append first second, ap length is_first) in
    let eight : length third ≡ 8 = rw is_third refl in
    take-put_mid end j more third (end + 8) (omega arith) room_left
    ∙ ap (λ (x : List ℕ). x ++ third) both
    ∙ (λ i. (is_first i ++ is_second i) ++ is_third i)
    ∙ append_assoc rest (0x80 ∷ replicate ((119 - length rest) % 64) 0) (to_be_bytes w64 bits)

-- a short text with its padding, written into a block of zeros
pub block_written : (text first third : List ℕ) (bits : ℕ) → first ≡ text → third ≡ to_be_bytes w64 bits → length text < 56
    → put_mid 56 8 (slice_set (first ++ drop (length text) (replicate 64 0)) (length text) 0x80) third ≡ padded_tail text bits
block_written text first third bits is_first is_third short =
    let z : ℕ = (119 - length text) % 64 in
    let zeros : List ℕ = replicate z 0 in
    let eight : List ℕ = replicate 8 0 in
    let front : List ℕ = text ++ 0x80 ∷ zeros in
    let count : 64 - length text ≡ suc (z + 8) = omega arith in
    let left : drop (length text) (replicate 64 0) ≡ 0 ∷ replicate (z + 8) 0 = drop-replicate (length text) 64 0 ∙ ap (λ (n : ℕ). replicate n 0) count in
    let split : replicate (z + 8) 0 ≡ zeros ++ eight = sym (replicate-append-replicate {A = ℕ} z 8 0) in
    let marked : slice_set (first ++ drop (length text) (replicate 64 0)) (length text) 0x80 ≡ front ++ eight =
    (λ i. slice_set (is_first i ++ left i) (length text) 0x80) ∙ set_at text 0 (replicate (z + 8) 0) 0x80 (length text) refl
    ∙ ap (λ (x : List ℕ). text ++ 0x80 ∷ x) split ∙ sym (append_assoc text (0x80 ∷ zeros) eight) in
    let none : length zeros ≡ z = length-replicate z 0 in
    let long : length front ≡ 56 = length-append text (0x80 ∷ zeros) ∙ omega (arith, none) in
    let whole : length (front ++ eight) ≡ 64 = length-append front eight ∙ omega (arith, long) in
    let all : List ℕ = put_mid 56 8 (front ++ eight) third in
    let wide : length third ≡ 8 = rw is_third refl in
    let start : take 64 all ≡ take 56 (front ++ eight) ++ third = take-put_mid 56 8 (front ++ eight) third 64 (omega (arith, wide)) (omega (arith, whole)) in
    let end : drop 64 all ≡ [] = drop-put_mid 56 8 (front ++ eight) third 64 (omega arith) (omega (arith, whole)) wide ∙ drop_all 64 (front ++ eight) (omega (arith, whole)) in
    ap (λ (x : List ℕ). put_mid 56 8 x third) marked
    ∙ sym (take-append-drop 64 all) ∙ (λ i. start i ++ end i) ∙ append-nil _
    ∙ (λ i. take_at front eight 56 long i ++ is_third i)
    ∙ append_assoc text (0x80 ∷ zeros) (to_be_bytes w64 bits)

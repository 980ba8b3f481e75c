-- A hash that has taken in blocks, and what follows them.
use Rattle.std.proofs.Common.{◌≡◌, ℕ, zero, suc, ◌+◌, ◌-◌, ◌*◌, ◌/◌, ◌%◌, ◌^◌, ◌<◌, ◌≤◌, List, ◌∷◌, ◌++◌, length, take, drop, replicate, refl, sym, ap, ◌∙◌, add-zero, arith, length-append, length-drop, append_assoc}
use Rattle.std.proofs.lemmas.List.{drop-drop, drop_at, length-take-le, take_all, take-append-drop}
use Rattle.std.specs.Int.{w64, to_be_bytes}
use Rattle.sha2.specs.Sha256.{compress, digest_bytes, hash_after, initial_hash_256, padded_message, padding, sha256}
use Rattle.sha2.proofs.Absorbing256.{hash_after-append, hash_after_next}
use Rattle.hash_lanes.specs.declared.midstate.Midstate.{Midstate}
use Rattle.hash_lanes.specs.Midstates.{IsAfter, IsLastBlock}
use Rattle.hash_lanes.specs.Tails.{padded_tail, tail_length}

-- Blocks behind a text of whole blocks are taken into the hash value of that text.
pub blocks_on : (h front more : List ℕ) (q n : ℕ) → length front ≡ q * 64 → hash_after h (front ++ more) (q + n) ≡ hash_after (hash_after h front q) more n
unfolding hash_after
blocks_on h front more q zero whole = rw add-zero (hash_after-append h front more q (omega arith))
blocks_on h front more q (suc n) whole =
    let up : q + suc n ≡ q + n + 1 = omega arith in
    let at : (q + n) * 64 ≡ q * 64 + n * 64 = omega arith in
    let behind : drop (q * 64) (front ++ more) ≡ more = drop_at front more (q * 64) whole in
    let block : drop ((q + n) * 64) (front ++ more) ≡ drop (n * 64) more = ap (λ (k : ℕ). drop k (front ++ more)) at ∙ sym (drop-drop (n * 64) (q * 64) (front ++ more)) ∙ ap (drop (n * 64)) behind in
    ap (hash_after h (front ++ more)) up ∙ hash_after_next h (front ++ more) (q + n)
    ∙ (λ i. compress (blocks_on h front more q n whole i) (take 64 (block i)))

-- one block more
pub one_block : (h block : List ℕ) → length block ≡ 64 → hash_after h block 1 ≡ compress h block
unfolding hash_after
one_block h block long = ap (compress h) (take_all 64 block (omega arith))

pub taken_block : (old new : Midstate) (m block : List ℕ) → IsAfter old m → length block ≡ 64 → new.words ≡ compress old.words block → new.taken ≡ (old.taken + 64) % 2 ^ 64 → IsAfter new (m ++ block)
taken_block old new m block after long words taken =
    let len : length (m ++ block) ≡ length m + 64 = length-append m block ∙ ap (λ (n : ℕ). length m + n) long in
    let edge : length m % 64 ≡ 0 = after.edge in
    let counted : old.taken ≡ length m % 2 ^ 64 = after.taken in
    let count : length (m ++ block) / 64 ≡ length m / 64 + 1 = omega arith in
    let whole : length m ≡ length m / 64 * 64 = omega arith in
    record {
      edge = omega arith;
      words = words ∙ ap (λ (h : List ℕ). compress h block) after.words ∙ sym (one_block _ block long)
          ∙ sym (blocks_on initial_hash_256 m block (length m / 64) 1 whole) ∙ ap (hash_after initial_hash_256 (m ++ block)) (sym count);
      taken = omega arith;
    }

-- The digest of the blocks so far and a text behind them: the text's whole blocks are taken in, and then its padded tail.
pub finished : (s : Midstate) (m text tail last : List ℕ) (bits : ℕ) → IsAfter s m → bits ≡ (s.taken + length text) * 8 % 2 ^ 64
    → tail ≡ padded_tail (drop (64 * (length text / 64)) text) bits → last ≡ hash_after (hash_after s.words text (length text / 64)) tail (length tail / 64)
    → digest_bytes last 8 ≡ sha256 (m ++ text)
unfolding sha256
finished s m text tail last bits after counted is_tail is_last =
    let n : ℕ = length text / 64 in
    let q : ℕ = length m / 64 in
    let front : List ℕ = m ++ take (64 * n) text in
    let rest : List ℕ = drop (64 * n) text in
    let edge : length m % 64 ≡ 0 = after.edge in
    let taken : s.taken ≡ length m % 2 ^ 64 = after.taken in
    let len : length (m ++ text) ≡ length m + length text = length-append m text in
    let left : length rest ≡ length text - 64 * n = length-drop (64 * n) text in
    let kept : length (take (64 * n) text) ≡ 64 * n = length-take-le (64 * n) text (omega arith) in
    let front_long : length front ≡ (q + n) * 64 = omega (arith, length-append m (take (64 * n) text)) in
    let same_bits : bits ≡ length (m ++ text) * 8 % 2 ^ 64 = omega arith in
    let same_rest : length rest ≡ length (m ++ text) % 64 = omega arith in
    let pads : tail ≡ rest ++ padding (length (m ++ text)) = is_tail ∙ (λ i. rest ++ (0x80 ∷ (replicate ((119 - same_rest i) % 64) 0 ++ to_be_bytes w64 (same_bits i)))) in
    let split : m ++ text ≡ front ++ rest = ap (λ (x : List ℕ). m ++ x) (sym (take-append-drop (64 * n) text)) ∙ sym (append_assoc m (take (64 * n) text) rest) in
    let padded : padded_message (m ++ text) ≡ front ++ tail =
    ap (λ (x : List ℕ). x ++ padding (length (m ++ text))) split ∙ append_assoc front rest (padding (length (m ++ text))) ∙ ap (λ (x : List ℕ). front ++ x) (sym pads) in
    let blocks : length (padded_message (m ++ text)) / 64 ≡ q + n + length tail / 64 = ap (λ (x : List ℕ). length x / 64) padded ∙ omega (arith, length-append front tail) in
    let m_whole : length m ≡ q * 64 = omega arith in
    let up_to : hash_after initial_hash_256 front (q + n) ≡ hash_after s.words text n =
    blocks_on initial_hash_256 m (take (64 * n) text) q n m_whole ∙ ap (λ (h : List ℕ). hash_after h (take (64 * n) text) n) (sym after.words)
    ∙ sym (hash_after-append s.words (take (64 * n) text) rest n (omega arith)) ∙ ap (λ (x : List ℕ). hash_after s.words x n) (take-append-drop (64 * n) text) in
    ap (λ (h : List ℕ). digest_bytes h 8)
    (is_last ∙ ap (λ (h : List ℕ). hash_after h tail (length tail / 64)) (sym up_to)
    ∙ sym (blocks_on initial_hash_256 front tail (q + n) (length tail / 64) front_long)
    ∙ (λ i. hash_after initial_hash_256 (sym padded i) (sym blocks i)))

pub two_blocks : (h all first second : List ℕ) → length all ≡ 128 → first ≡ take 64 all → second ≡ drop 64 all → compress (compress h first) second ≡ hash_after h all 2
unfolding hash_after
two_blocks h all first second long is_first is_second =
    let rest : length (drop 64 all) ≡ 64 = omega (arith, length-drop 64 all) in
    (λ i. compress (compress h (is_first i)) (is_second i)) ∙ ap (compress (compress h (take 64 all))) (sym (take_all 64 (drop 64 all) (omega arith)))

-- a block of a text, as the program cuts it out
pub block_on : (h text block : List ℕ) (words : List ℕ) (i : ℕ) → words ≡ hash_after h text i → block ≡ take 64 (drop (64 * i) text) → compress words block ≡ hash_after h text (i + 1)
block_on h text block words i is cut =
    let at : 64 * i ≡ i * 64 = omega arith in
    (λ k. compress (is k) (cut k)) ∙ ap (λ (n : ℕ). compress (hash_after h text i) (take 64 (drop n text))) at ∙ sym (hash_after_next h text i)

-- the same, where the tail lies at the beginning of more bytes
pub finished_tail : (s : Midstate) (m text rest bytes last : List ℕ) (bits len : ℕ) → IsAfter s m → bits ≡ (s.taken + length text) * 8 % 2 ^ 64
    → rest ≡ drop (64 * (length text / 64)) text → len ≡ tail_length (length rest) → take len bytes ≡ padded_tail rest bits → 128 ≤ length bytes
    → last ≡ hash_after (hash_after s.words text (length text / 64)) (take len bytes) (len / 64) → digest_bytes last 8 ≡ sha256 (m ++ text)
finished_tail s m text rest bytes last bits len after counted is_rest is_len is_tail fits is_last =
    let left : length rest < 64 = omega (arith, ap length is_rest, length-drop (64 * (length text / 64)) text) in
    let long : length (take len bytes) ≡ len = length-take-le len bytes (omega arith) in
    finished s m text (take len bytes) last bits after counted (is_tail ∙ ap (λ (x : List ℕ). padded_tail x bits) is_rest)
    (is_last ∙ ap (λ (n : ℕ). hash_after (hash_after s.words text (length text / 64)) (take len bytes) (n / 64)) (sym long))

-- A short text is taken in with its padding, as one block.
pub short_finished : (s : Midstate) (m text block last digest : List ℕ) → IsAfter s m → length text < 56 → IsLastBlock s text block → last ≡ compress s.words block
    → digest ≡ digest_bytes last 8 → digest ≡ sha256 (m ++ text)
unfolding hash_after
short_finished s m text block last digest after short is_block is_last is =
    let none : length text / 64 ≡ 0 = omega arith in
    let whole : text ≡ drop (64 * (length text / 64)) text = rw none refl in
    let one : length block / 64 ≡ 1 = omega (arith, is_block.1) in
    is ∙ finished s m text block last _ after refl (is_block.0 ∙ ap (λ (x : List ℕ). padded_tail x ((s.taken + length text) * 8 % 2 ^ 64)) whole)
    (is_last ∙ sym (one_block s.words block is_block.1) ∙ (λ i. hash_after (hash_after s.words text (sym none i)) block (sym one i)))

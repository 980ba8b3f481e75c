-- The bytes of a number are bytes.
use Rattle.std.proofs.Common.{ℕ, zero, suc, ◌<◌, List, [], ◌∷◌, arith}
use Rattle.std.specs.Int.{bytes_high_first, byte_at}
use Rattle.tuple_tree.specs.Values.{AreBytes}

pub no_bytes : AreBytes []
no_bytes i = omega arith

pub bytes_more : (b : ℕ) (bs : List ℕ) → b < 256 → AreBytes bs → AreBytes (b ∷ bs)
bytes_more b bs l h zero = l
bytes_more b bs l h (suc i) = h i

byte_below : (k n : ℕ) → byte_at k n < 256
byte_below zero n = omega arith
byte_below (suc k) n = omega arith

pub high_bytes : (k n : ℕ) → AreBytes (bytes_high_first k n)
high_bytes zero n = no_bytes
high_bytes (suc k) n = bytes_more (byte_at k n) (bytes_high_first k n) (byte_below k n) (high_bytes k n)

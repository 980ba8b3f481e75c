-- HMAC with SHA-256 as its hash, on lists of bytes (RFC 2104, section 2).
use Rattle.std.specs.Prelude.{ℕ, ◌-◌, List, ◌++◌, length, map, replicate, bit_xor, nat_lt, if◌then◌else◌}
use Rattle.sha2.specs.Sha256.{sha256}

-- a key of more than a block is replaced by its hash
abbrev pub short_key : List ℕ → List ℕ
short_key key = if nat_lt 64 (length key) then sha256 key else key

-- the key, filled with zero bytes to the 64 of a block
unfoldable pub block_key : List ℕ → List ℕ
block_key key = short_key key ++ replicate (64 - length (short_key key)) 0

-- each byte of the list XOR the pad
abbrev pub xor_each : ℕ → List ℕ → List ℕ
xor_each pad bs = map (λ b. bit_xor b pad) bs

-- H(K XOR opad, H(K XOR ipad, text))
unfoldable pub hmac_of : List ℕ → List ℕ → List ℕ
hmac_of key text =
    sha256 (xor_each 0x5c (block_key key) ++ sha256 (xor_each 0x36 (block_key key) ++ text))

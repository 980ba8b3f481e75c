-- The two cases of a key that fills a block.
use Rattle.std.proofs.Common.{◌≡◌, ℕ, ◌-◌, ◌<◌, ◌≤◌, List, ◌++◌, length, replicate, refl}
use Rattle.std.proofs.lemmas.Bool.{lt-ltb, le-ltb}
use Rattle.sha2.specs.Sha256.{sha256}
use Rattle.authenticator.specs.Mac.{block_key}

pub block_key-long : (key : List ℕ) → 64 < length key → block_key key ≡ sha256 key ++ replicate (64 - length (sha256 key)) 0
unfolding block_key
block_key-long key long = rw (lt-ltb 64 (length key) long) refl

pub block_key-short : (key : List ℕ) → length key ≤ 64 → block_key key ≡ key ++ replicate (64 - length key) 0
unfolding block_key
block_key-short key short = rw (le-ltb 64 (length key) short) refl

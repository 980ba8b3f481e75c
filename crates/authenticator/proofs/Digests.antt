-- The entries that are sealed.
use Rattle.std.proofs.Common.{ℕ, List, [], ◌∷◌, ◌++◌, take, arith, zero, suc}
use Rattle.std.specs.Int.{w32, to_be_bytes}
use Rattle.std.specs.Prelude.{slice_index}
use Rattle.sha2.specs.Sha256.{sha256, digest_bytes}
use Rattle.sha2.proofs.Facts256.{length-sha256}
use Rattle.tuple_tree.specs.Values.{AreBytes}
use Rattle.tuple_tree.proofs.Readers.{bytes_append}
use Rattle.wire_format.specs.Lists.{Each}
use Rattle.wire_format.specs.Spelling.{IsDigest}
use Rattle.authenticator.specs.Mac.{hmac_of}

-- ---- a MAC is a digest

bytes_at_end : (x : ℕ) → AreBytes (to_be_bytes w32 x)
bytes_at_end x zero = omega arith
bytes_at_end x (suc zero) = omega arith
bytes_at_end x (suc (suc zero)) = omega arith
bytes_at_end x (suc (suc (suc zero))) = omega arith
bytes_at_end x (suc (suc (suc (suc i)))) = omega arith

digest_bytes-bytes : (h : List ℕ) (n : ℕ) → AreBytes (digest_bytes h n)
unfolding digest_bytes
digest_bytes-bytes h zero = λ i. omega arith
digest_bytes-bytes h (suc n) = bytes_append _ _ (digest_bytes-bytes h n) (bytes_at_end (slice_index h n))

sha256-digest : (m : List ℕ) → IsDigest (sha256 m)
unfolding sha256
sha256-digest m = record { whole = length-sha256 m; bytes = digest_bytes-bytes _ 8 }

pub hmac_of-digest : (key text : List ℕ) → IsDigest (hmac_of key text)
unfolding hmac_of
hmac_of-digest key text = sha256-digest _

-- ---- the first of such entries, and more of them

pub each_take : {A : Type 0} (P : A → Type 0) (n : ℕ) (xs : List A) → Each P xs → Each P (take n xs)
each_take P zero xs all = tt
each_take P (suc n) [] all = tt
each_take P (suc n) (x ∷ xs) (p, others) = (p, each_take P n xs others)

pub each_append : {A : Type 0} (P : A → Type 0) (xs ys : List A) → Each P xs → Each P ys → Each P (xs ++ ys)
each_append P [] ys none all = all
each_append P (x ∷ xs) ys (p, others) all = (p, each_append P xs ys others all)

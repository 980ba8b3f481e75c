-- The length of a code.
use Rattle.std.proofs.Common.{◌≡◌, List, ℕ, length}
use Rattle.sha2.proofs.Facts256.{length-sha256}
use Rattle.authenticator.specs.Mac.{hmac_of}

pub length-hmac_of : (key text : List ℕ) → length (hmac_of key text) ≡ 32
unfolding hmac_of
length-hmac_of key text = length-sha256 _

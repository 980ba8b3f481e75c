use Rattle.std.proofs.Common.{arith}
use Rattle.authenticator.proofs.Fours.{are_short}
use Rattle.signing.proofs.signature.hashes_of_shown.Goals as goal

pub digest_each-requires : goal.digest_each-requires
digest_each-requires c =
    are_short 32 _ _ _ _ (omega arith) c.secret_shown.ensures.length c.secret_shown-2.ensures.length c.secret_shown-3.ensures.length c.secret_shown-4.ensures.length

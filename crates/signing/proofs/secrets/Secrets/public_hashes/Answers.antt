use Rattle.std.proofs.Common.{arith}
use Rattle.std.proofs.lemmas.Grind.{common_steps}
use Rattle.authenticator.proofs.Fours.{are_short}
use Rattle.signing.proofs.Fours.{hashes_at}
use Rattle.signing.proofs.secrets.Secrets.public_hashes.Goals as goal

pub digest_each-requires : goal.digest_each-requires
digest_each-requires c =
    are_short 32 _ _ _ _ (omega arith) (grind (arith, common_steps)) (grind (arith, common_steps)) (grind (arith, common_steps)) (grind (arith, common_steps))

pub returns : goal.returns
returns c = hashes_at c.args.self.now c.args.places c.secrets.result c.digest_each.result (omega arith) c.secrets.ensures c.digest_each.ensures

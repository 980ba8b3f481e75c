use Rattle.std.proofs.Common.{arith}
use Rattle.std.proofs.lemmas.Grind.{common_steps}
use Rattle.authenticator.proofs.Fours.{are_short}
use Rattle.signing.proofs.Fours.{secrets_at}
use Rattle.signing.proofs.secrets.Secrets.secrets.Goals as goal

pub mac_each-requires : goal.mac_each-requires
mac_each-requires c =
    are_short 5 _ _ _ _ (omega arith) (grind (arith, common_steps)) (grind (arith, common_steps)) (grind (arith, common_steps)) (grind (arith, common_steps))

pub returns : goal.returns
returns c =
    rw (← c.self.view_is) (secrets_at c.self.inside.seed c.args.places _ _ _ _ _ _ (omega arith) c.text.ensures c.text-2.ensures c.text-3.ensures c.text-4.ensures
    (c.mac_each.ensures c.self.inside.seed c.self.invariant))

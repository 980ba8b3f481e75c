use Rattle.signing.specs.Signatures.{signed_bit}
use Rattle.signing.proofs.Joining.{append-joined_none, joined_push_four}
use Rattle.signing.proofs.secrets.Secrets.push_signed.Goals as goal

pub loop-group-init : goal.loop-group-init
loop-group-init c = append-joined_none _ _

pub loop-group-preserved : goal.loop-group-preserved
loop-group-preserved c =
    joined_push_four _ c.loop-group.group (signed_bit c.args.self.now c.args.leaf c.args.hash.now) _ _ c.loop-group.invariant c.in_ok-push_four.ensures

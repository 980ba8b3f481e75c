use Rattle.replica.proofs.Beginning.{client_dropped}
use Rattle.replica.proofs.both_parts.BothParts.on_client.Goals as goal

pub returns : goal.returns
returns c = client_dropped _ c.args.client.number c.args.message c.args.frame.now c.are_one.ensures c.requires.other c.requires.authentic

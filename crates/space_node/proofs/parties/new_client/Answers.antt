use Rattle.std.proofs.Common.{refl}
use Rattle.space_node.proofs.parties.new_client.Goals as goal

pub new-state-requires-clause-fits : goal.new-state-requires-clause-fits
new-state-requires-clause-fits g c =
    c.new-client.ensures.fits g.N.Naming.config
    (rw (← c.requires.config, c.in_ok-ring.ensures, c.in_ok-keys.ensures, c.requires.keys) refl)

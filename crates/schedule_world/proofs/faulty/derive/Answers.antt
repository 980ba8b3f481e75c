use Rattle.authenticator.specs.Keys.{derived_key}
use Rattle.schedule_world.proofs.faulty.derive.Goals as goal

pub returns : goal.returns
unfolding derived_key
returns c =
    let coded = c.hmac.ensures in
    rw (c.to_be_bytes.ensures, c.to_be_bytes-2.ensures) at coded

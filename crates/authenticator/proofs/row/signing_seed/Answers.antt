use Rattle.authenticator.specs.Keys.{signing_seed}
use Rattle.authenticator.proofs.row.signing_seed.Goals as goal

pub returns : goal.returns
unfolding signing_seed
returns c =
    let coded = c.hmac.ensures in
    rw (c.to_be_bytes.ensures, c.number.ensures) at coded

use Rattle.authenticator.specs.Mac.{hmac_of}
use Rattle.authenticator.proofs.mac.Key.mac.Goals as goal

pub returns : goal.returns
unfolding hmac_of
returns c = λ key made.
    let inner = c.finish.ensures _ made.inner in
    rw (← inner) (c.finish-2.ensures _ made.outer)

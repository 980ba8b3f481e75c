use Rattle.std.proofs.Common.{sym}
use Rattle.authenticator.proofs.Keeping.{shared-code}
use Rattle.authenticator.proofs.ring.Ring.shared_mac.Goals as goal

pub returns-in-Some-clause-code : goal.returns-in-Some-clause-code
returns-in-Some-clause-code c =
    let kept = c.self.invariant.0 c.args.from c.args.to c.in-Some.key.now (sym c.in-Some.ensures.value) in
    rw (← c.self.view_is) (shared-code _ c.args.from c.args.to c.args.text.now c.mac.result kept.0 kept.1 (c.mac.ensures kept.0 kept.2))

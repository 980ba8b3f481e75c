use Rattle.authenticator.proofs.Keeping.{sealing-code, sealing-none}
use Rattle.authenticator.proofs.ring.Ring.mac.Goals as goal

pub returns-in-Some-clause-code : goal.returns-in-Some-clause-code
returns-in-Some-clause-code c = sealing-code c.args.self.now.keys c.args.from c.args.to c.args.text.now c.in-Some.code c.in-Some.ensures.code

pub returns-in-None-clause-code : goal.returns-in-None-clause-code
returns-in-None-clause-code c =
    sealing-none c.args.self.now.keys c.args.from c.args.to c.args.text.now c.hmac.result c.in-None.ensures.code c.hmac.ensures

use Rattle.authenticator.specs.Kept.{IsCodeBetween}
use Rattle.authenticator.specs.RingView.{keys_of}
use Rattle.authenticator.proofs.Keeping.{fit-inserted}
use Rattle.authenticator.proofs.ring.Ring.keep_first_code.Goals as goal

pub invariant_of-self : goal.invariant_of-self
invariant_of-self c =
    let keys = keys_of c.self.inside.source in
    let right : IsCodeBetween keys c.args.from c.args.to c.in-Ok.text.items c.args.code =
    rw c.in-Ok.ensures.items (rw (← c.self.view_is) at c.requires) in
    let fits = fit-inserted (λ from to it. IsCodeBetween keys from to it.text.items it.code) c.self.inside.requests c.insert.new.self
    c.args.from c.args.to (record { text = c.in-Ok.text; code = c.args.code }) c.insert.result c.self.invariant.1 right c.insert.ensures.updates c.insert.ensures.err in
    (c.self.invariant.0, fits)

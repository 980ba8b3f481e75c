use Rattle.std.proofs.Common.{sym, rules}
use Rattle.authenticator.specs.Kept.{IsCodeBetween}
use Rattle.authenticator.specs.RingView.{keys_of}
use Rattle.authenticator.proofs.Keeping.{coded-taken, fit-put}
use Rattle.authenticator.proofs.ring.Ring.keep_code.Goals as goal

pub invariant_of-self : goal.invariant_of-self
invariant_of-self c =
    let keys = keys_of c.self.inside.source in
    let right : IsCodeBetween keys c.args.from c.args.to c.args.text.now c.args.code = rw (← c.self.view_is) at c.requires in
    let was = c.self.invariant.1 c.args.from c.args.to c.in-Some.last.now (sym c.in-Some.ensures.value) in
    let taken = coded-taken keys c.args.from c.args.to c.args.text.now c.args.code c.in-Some.last.now c.put.new.self right was c.put.ensures in
    let fits = fit-put (λ from to it. IsCodeBetween keys from to it.text.items it.code) c.self.inside.requests (c.get_mut.follows.lender c.put.new.self)
    c.args.from c.args.to c.put.new.self c.self.invariant.1 taken ((c.get_mut.follows.holds c.put.new.self).3 (search rules)) in
    (c.self.invariant.0, fits)

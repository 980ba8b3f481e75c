use Rattle.std.proofs.Common.{◌≡◌, ◌∙◌, Some, ap, sym}
use Rattle.authenticator.specs.Kept.{IsKeyBetween}
use Rattle.authenticator.specs.Keys.{find_key}
use Rattle.authenticator.specs.Membership.{Membership}
use Rattle.authenticator.specs.RingView.{keys_of}
use Rattle.authenticator.proofs.Keeping.{fit-inserted, shared-code}
use Rattle.authenticator.proofs.ring.Ring.first_mac.Goals as goal

pub invariant_of-self : goal.invariant_of-self
invariant_of-self c =
    let keys = keys_of c.self.inside.source in
    let shared : find_key c.take_row.new.self.keys c.args.from c.args.to ≡ Some c.in_ok-bytes.bytes = sym c.in_ok-bytes.ensures in
    let found : find_key keys c.args.from c.args.to ≡ Some c.in_ok-bytes.bytes = rw (← c.self.view_is) at shared in
    let fits = fit-inserted (IsKeyBetween keys) c.self.inside.kept c.insert.new.self
    c.args.from c.args.to c.new-key.result c.insert.result c.self.invariant.0 (c.in_ok-bytes.bytes, found, c.new-key.ensures)
    c.insert.ensures.updates c.insert.ensures.err in
    (fits, c.self.invariant.1)

pub returns-clause-code : goal.returns-clause-code
returns-clause-code c =
    shared-code c.args.self.now.keys c.args.from c.args.to c.args.text.now c.mac-code.result c.in_ok-bytes.bytes
    (ap (λ (m : Membership). find_key m.keys c.args.from c.args.to) (sym c.take_row.ensures) ∙ sym c.in_ok-bytes.ensures)
    (c.mac-code.ensures c.in_ok-bytes.bytes c.new-key.ensures)

use Rattle.std.proofs.Common.{◌≡◌, ◌∙◌, Some, ap, sym}
use Rattle.terms.specs.Parties.{party_number}
use Rattle.authenticator.specs.Dealing.{dealt_keys}
use Rattle.authenticator.specs.Keys.{row, shared_mac}
use Rattle.schedule_world.proofs.Entries.{dealt_mac}
use Rattle.schedule_world.proofs.Rows.{row_mac}
use Rattle.schedule_world.proofs.faulty.FaultyParty.mac_for.Goals as goal

pub returns-in-Some-clause-mac : goal.returns-in-Some-clause-mac
returns-in-Some-clause-mac c =
    let one = c.args.self.now in
    let from = party_number one.party in
    let to = party_number c.args.receiver in
    let text = c.args.body.now in
    let coded : c.shared_mac.result ≡ shared_mac one.ring.keys from to text =
    rw (c.number-from.ensures, c.number-to.ensures) at c.shared_mac.ensures.code in
    let own : Some c.in-Some.mac ≡ shared_mac (row (dealt_keys one.seed one.ring.faults one.ring.clients from)) from to text =
    sym c.in-Some.is ∙ coded ∙ ap (λ keys. shared_mac keys from to text) one.right.0 in
    row_mac one.seed one.ring.faults one.ring.clients from from to text c.in-Some.mac own

pub returns-in-None-clause-mac : goal.returns-in-None-clause-mac
returns-in-None-clause-mac c =
    let one = c.args.self.now in
    dealt_mac one.seed (party_number one.party) (party_number c.args.receiver) c.args.body.now c.hmac.result
    (rw (c.derive.ensures, c.number-from.ensures, c.number-to.ensures) at c.hmac.ensures)

use Rattle.std.proofs.Common.{◌≡◌, ◌<◌, ◌+◌, ◌*◌, ◌∙◌, sym, refl, [], rules}
use Rattle.authenticator.specs.Keys.{signing_seed}
use Rattle.protocol.specs.System.Configuration.{members}
use Rattle.signing.proofs.Publics.{one_within}
use Rattle.signing.specs.Publics.{knows}
use Rattle.replica.specs.Fits.{Fits, me_of}
use Rattle.space_node.proofs.parties.new_node.Goals as goal

pub new-requires-clause-keys : goal.new-requires-clause-keys
new-requires-clause-keys g c =
    let less : c.args.replica.0 < 3 * c.args.config.now.faults + 1 = search rules in
    let own : c.from_seed-signer.result.seed ≡ signing_seed c.args.config.now.seed c.args.replica.0 = search rules in
    rw (c.in_ok-keys.ensures, c.requires.keys, c.faults.ensures.valid.publics, own) (one_within c.args.config.now.seed c.args.config.now.faults c.args.replica.0 less)

pub new-requires-2 : goal.new-requires-2
new-requires-2 g c =
    let known : members g.N.Naming.config c.args.replica.0 ≡ knows c.in_ok-ring.ring c.in_ok-keys.keys = rw (← c.requires.config, c.in_ok-ring.ensures, c.in_ok-keys.ensures, c.requires.keys) refl in
    let fits : Fits g.N.Naming.config c.in_ok-whole.whole [] =
    c.in_ok-whole.ensures.fits g.N.Naming.config known (rw (← c.requires.config, c.period.ensures.value) refl) in
    let party : c.args.order.party ≡ me_of c.in_ok-whole.whole = c.requires.order_party ∙ sym c.in_ok-whole.ensures.number in
    rw (c.split-orderer.ensures.orderer, party, c.requires.new_order) (record { fits = fits.1 })

pub new-requires-4-clause-fits : goal.new-requires-4-clause-fits
new-requires-4-clause-fits g c =
    let known : members g.N.Naming.config c.args.replica.0 ≡ knows c.in_ok-ring.ring c.in_ok-keys.keys = rw (← c.requires.config, c.in_ok-ring.ensures, c.in_ok-keys.ensures, c.requires.keys) refl in
    let fits : Fits g.N.Naming.config c.in_ok-whole.whole [] =
    c.in_ok-whole.ensures.fits g.N.Naming.config known (rw (← c.requires.config, c.period.ensures.value) refl) in
    let party : c.args.share.party ≡ me_of c.in_ok-whole.whole = c.requires.party ∙ sym c.in_ok-whole.ensures.number in
    rw (c.split-orderer.ensures.desk, party, c.requires.new) fits.0

use Rattle.std.proofs.Common.{◌∙◌, ap}
use Rattle.wire.specs.Headers.{header_data, authenticator_bytes_data}
use Rattle.authenticator.specs.Authentic.{has_some_mac}
use Rattle.authenticator.specs.Keys.{shared_mac}
use Rattle.authenticator.proofs.Frames.{proves-macs}
use Rattle.authenticator.proofs.ring.Ring.is_authenticated.Goals as goal

pub returns-then-header-clause-value : goal.returns-then-header-clause-value
returns-then-header-clause-value c =
    let header = header_data c.args.header.now in
    let keys = c.args.self.now.keys in
    c.proves_request.ensures.value
    ∙ ap (λ s. has_some_mac c.args.party (shared_mac keys s c.args.party header.text) c.in-Macs.entries) c.number-sender.ensures
    ∙ proves-macs c.args.party (shared_mac keys header.sender c.args.party header.text) c.in-Macs.entries header.authenticator (ap authenticator_bytes_data c.in-Macs.is)

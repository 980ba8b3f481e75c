use Rattle.std.proofs.Common.{map}
use Rattle.terms.specs.Parties.{party_number}
use Rattle.wire_format.specs.Views.{body_data}
use Rattle.frame_endpoint.proofs.Fitting.{never_too_long}
use Rattle.frame_endpoint.proofs.sealing.seal_body.Goals as goal

pub returns-clause-fits : goal.returns-clause-fits
returns-clause-fits c fits large =
    never_too_long c.args.ring.now.keys (body_data c.args.body.now) (map party_number c.args.receivers.now) c.requires fits (c.seal.ensures.large.0 large)

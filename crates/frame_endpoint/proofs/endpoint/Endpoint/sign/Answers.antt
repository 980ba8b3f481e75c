use Rattle.wire_format.specs.Views.{message_data}
use Rattle.frame_endpoint.specs.Endpoint.{says}
use Rattle.frame_endpoint.proofs.Outgoing.{may_say, signs_own, signs_by}
use Rattle.frame_endpoint.proofs.endpoint.Endpoint.sign.Goals as goal

pub sign_message-requires-clause-said : goal.sign_message-requires-clause-said
sign_message-requires-clause-said c =
    may_say c.self.inside.me.0 c.self.inside.faults (message_data c.args.message) c.self.invariant.3 c.self.invariant.2 c.requires.said

pub returns-clause-frame : goal.returns-clause-frame
returns-clause-frame c =
    rw (← c.self.view_is)
    (signs_own c.sign_message.result c.self.inside.publics c.self.inside.signer.seed c.self.inside.me.0 c.self.inside.signer.used (message_data c.args.message)
    (rw (← c.public-public.ensures.same) c.sign_message.ensures.spells) c.self.invariant.4)

pub returns-clause-leaf : goal.returns-clause-leaf
returns-clause-leaf c =
    rw (← c.self.view_is)
    (signs_by c.sign_message.result c.self.inside.signer.seed c.self.inside.signer.used (says c.self.inside.me.0 (message_data c.args.message))
    (rw (← c.public-public.ensures.same) c.sign_message.ensures.spells))

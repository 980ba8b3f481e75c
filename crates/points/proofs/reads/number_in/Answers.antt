use Rattle.std.proofs.Common.{◌+◌}
use Rattle.terms.specs.Parties.{party_number}
use Rattle.points.proofs.Replying.{none_said, number_said}
use Rattle.points.proofs.reads.number_in.Goals as goal

pub returns-in-Reply : goal.returns-in-Reply
returns-in-Reply c =
    number_said c.args.client.number c.args.timestamp.0 (party_number c.args.body.sender) c.args.body.message c.in-Reply.reply _ _ c.in-Reply.is c.answers.ensures
    c.then_some.ensures

pub returns : goal.returns
returns c = none_said (256 + c.args.client.number) c.args.timestamp.0 (party_number c.args.body.sender) c.args.body.message c.in_default.not-Reply

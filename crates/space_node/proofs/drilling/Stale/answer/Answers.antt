use Rattle.std.proofs.Common.{[], refl, subst}
use Rattle.std.specs.Prelude.{IfOk}
use Rattle.terms.specs.declared.parties.Party.TheVariants as parties
use Rattle.wire_format.specs.Views.{message_data}
use Rattle.authenticator.specs.Membership.{Membership}
use Rattle.signing.specs.Publics.{knows}
use Rattle.frame_endpoint.specs.Endpoint.{SealsForOne}
use Rattle.read_only.specs.Receiving.{AuthenticatesRead}
use Rattle.space_node.specs.Drills.{IsStale}
use Rattle.space_node.proofs.Stale.{if_some, stale}
use Rattle.space_node.proofs.drilling.Stale.answer.Goals as goal

pub answer-requires : goal.answer-requires
answer-requires c = let read = c.in_ok-request.ensures.some [] in record { spelled = (read.op, read.spelled) }

pub returns : goal.returns
returns c publics =
    let s = c.args.self.now in
    let m = knows s.ring publics in
    let bytes = c.args.bytes.now in
    let request = c.in_ok-request.request in
    let receiver = parties.Client request.client in
    let message = message_data c.reply_message-message.result in
    let receives : AuthenticatesRead m s.me.0 bytes request.client.number request.timestamp.0 request.op.now = c.in_ok-request.ensures.some publics in
    let is_outgoing : IfOk c.seal_for_one.result (SealsForOne m s.me.0 message receiver) =
    subst (λ (ring : Membership). IfOk c.seal_for_one.result (SealsForOne (knows ring publics) s.me.0 message receiver)) c.authenticate_read.ensures.same
    (c.seal_for_one.ensures.is_outgoing publics) in
    if_some c.seal_for_one.result c.ok.result (SealsForOne m s.me.0 message receiver) (IsStale m s.me.0 bytes) c.ok.ensures.value
    (λ output sealed. stale m s.me.0 bytes _ request c.in-Ok.reply receives c.in-Ok.ensures.answer c.new-space.ensures.state refl message receiver output
    c.reply_message-message.ensures.says refl sealed) is_outgoing

use Rattle.std.proofs.Common.{Err, ap, ◌∙◌, subst}
use Rattle.signing.specs.Publics.{knows}
use Rattle.execution.specs.Executed.{ExecutedData}
use Rattle.read_only.specs.Receiving.{AuthenticatesRead}
use Rattle.desk.specs.DeskView.{desk_data}
use Rattle.desk.specs.Desking.{SendsToClient, message_of}
use Rattle.desk.proofs.ReadsAnswered.{answered, dropped}
use Rattle.desk.proofs.desk.Desk.read.Goals as goal

-- the read's bytes spell an operation
pub answer-requires : goal.answer-requires
answer-requires c = let read = c.in-Some.ensures.some c.self.inside.publics in record { spelled = (read.op, read.spelled) }

pub returns-in-Err-NotReadOnly-clause-ok : goal.returns-in-Err-NotReadOnly-clause-ok
returns-in-Err-NotReadOnly-clause-ok c =
    rw (← c.self.view_is)
    (dropped (desk_data c.self.inside) c.args.bytes.now c.in-Some.request c.args.outputs.now.items
    (subst (λ m. AuthenticatesRead (knows m c.self.inside.publics) c.self.inside.me.0 c.args.bytes.now c.in-Some.request.client.number c.in-Some.request.timestamp.0 c.in-Some.request.op.now) c.deref_mut.ensures.value
    (c.in-Some.ensures.some c.self.inside.publics)) (c.answer.ensures.not_read_only.0 (c.in-Err-NotReadOnly.is ∙ ap Err c.in-Err-NotReadOnly.field-0-is)))

pub returns-clause-ok : goal.returns-clause-ok
returns-clause-ok c =
    let publics = c.self.inside.publics in
    let keys = c.deref_mut.ensures.value in
    let lent = c.deref-executed.ensures in
    rw (← c.self.view_is)
    (answered (desk_data c.self.inside) c.args.bytes.now _ c.in-Some.request c.in-Ok.reply c.args.outputs.now.items c.reply.new.outputs.items (subst (λ m. AuthenticatesRead (knows m publics) c.self.inside.me.0 c.args.bytes.now c.in-Some.request.client.number c.in-Some.request.timestamp.0 c.in-Some.request.op.now) keys (c.in-Some.ensures.some publics)) c.in-Ok.ensures.answer
    (c.space.ensures ∙ ap (λ (e : ExecutedData). e.state.space) lent) (c.number.ensures.value ∙ ap (λ (e : ExecutedData). e.state.number) lent)
    (subst (λ m. SendsToClient (record (desk_data c.self.inside) { membership = knows m publics }) c.in-Ok.reply.client (message_of c.in-Ok.reply) c.args.outputs.now.items c.reply.new.outputs.items) (c.authenticate_read.ensures.same ∙ keys) c.in_ok-reply.ensures.said))

use Rattle.std.proofs.Common.{ℕ, option_map, sym, ◌∙◌, ap, subst}
use Rattle.tuple_codec.specs.Operations.{Outcome}
use Rattle.tuple_codec.specs.OperationView.{outcome_of}
use Rattle.reply_cache.specs.Replies.{Kept}
use Rattle.reply_cache.specs.ReplyView as reply_view
use Rattle.protocol.specs.Replica.State.{kept_of}
use Rattle.execution.specs.Executed.{ExecutedData}
use Rattle.desk.specs.State.{DeskData}
use Rattle.desk.specs.Desking.{SendsReply}
use Rattle.desk.proofs.desk.Desk.reply_again.Goals as goal

pub returns-clause-has : goal.returns-clause-has
returns-clause-has c = (
  reply_view.kept_of_reply c.in-Some.kept.now,
  ap (λ (d : DeskData). kept_of d.executed.state c.args.client.number) (sym c.self.view_is) ∙ ap (λ (e : ExecutedData). kept_of e.state c.args.client.number) (sym c.deref.ensures) ∙ sym c.last.ensures ∙ ap (option_map (λ r. reply_view.kept_of_reply r.now)) c.in-Some.is,
  c.if-kept-timestamp.true,
)

pub returns-clause-again : goal.returns-clause-again
returns-clause-again c = λ has. (
  reply_view.kept_of_reply c.in-Some.kept.now,
  ap (λ (d : DeskData). kept_of d.executed.state c.args.client.number) (sym c.self.view_is) ∙ ap (λ (e : ExecutedData). kept_of e.state c.args.client.number) (sym c.deref.ensures) ∙ sym c.last.ensures ∙ ap (option_map (λ r. reply_view.kept_of_reply r.now)) c.in-Some.is,
  c.if-kept-timestamp.true,
  subst (λ (k : Kept). SendsReply c.args.self.now c.args.client k c.args.outputs.now.items c.reply.new.outputs.items)
      (ap (λ (t : ℕ). record { timestamp = t; number = c.in-Some.kept.now.number; outcome = outcome_of c.in_ok-copy_in-in-Some.field-0 }) (sym c.if-kept-timestamp.true)
      ∙ ap (λ (o : Outcome). record { timestamp = c.in-Some.kept.now.timestamp; number = c.in-Some.kept.now.number; outcome = o }) c.in_ok-copy_in-in-Some.ensures)
      c.in_ok-reply.ensures.said,
)

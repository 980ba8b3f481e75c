use Rattle.std.proofs.Common.{sym, subst}
use Rattle.std.proofs.lemmas.Result.{on_ok_weaker}
use Rattle.desk.specs.State.{DeskData}
use Rattle.desk.specs.Desking.{RepliesToAll, RunsBatch}
use Rattle.desk.proofs.desk.Desk.execute.Goals as goal

pub returns-clause-ok : goal.returns-clause-ok
returns-clause-ok c = on_ok_weaker c.reply_to_all.result (λ replies. record {
  ran = c.in_ok-ran.ran.items;
  between = c.run.new.outputs.items;
  runs = subst (λ (d : DeskData). RunsBatch c.args.self.now c.args.text.now c.args.outputs.now.items d c.in_ok-ran.ran.items c.run.new.outputs.items) (sym c.reply_to_all.ensures.same) c.in_ok-ran.ensures.ok;
  replies = subst (λ (d : DeskData). RepliesToAll d c.in_ok-ran.ran.items c.run.new.outputs.items c.reply_to_all.new.outputs.items) (sym c.reply_to_all.ensures.same) replies;
}) c.reply_to_all.ensures.replies

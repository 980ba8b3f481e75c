use Rattle.std.proofs.Common.{ℕ, sym, ◌∙◌, arith}
use Rattle.std.specs.Prelude.{is_some}
use Rattle.client_cert.specs.State.{held}
use Rattle.client_cert.proofs.Counting.{one_more, no_more}
use Rattle.client_cert.proofs.ballots.Ballots.count.Goals as goal
use Rattle.client_cert.proofs.ballots.Ballots.count.Goals.{then-has, else-has}

pub loop-replica-preserved : goal.loop-replica-preserved
loop-replica-preserved c =
    let test = λ (s : ℕ). is_some (held c.args.self.now s) in
    elim c.if-has.branch [
      | then-has w ↦ (w.count-is ∙ one_more test c.loop-replica.replica c.loop-replica.count c.loop-replica.invariant.0 (sym c.has.ensures ∙ w.if-has.true), omega arith)
      | else-has w ↦ (w.count-is ∙ no_more test c.loop-replica.replica c.loop-replica.count c.loop-replica.invariant.0 (sym c.has.ensures ∙ w.if-has.false), omega arith)
    ]

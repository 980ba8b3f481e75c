use Rattle.std.proofs.Common.{ℕ, sym, ◌∙◌, arith}
use Rattle.client_cert.specs.State.{is_like, held}
use Rattle.client_cert.proofs.Counting.{one_more, no_more}
use Rattle.client_cert.proofs.ballots.Ballots.count_like.Goals as goal
use Rattle.client_cert.proofs.ballots.Ballots.count_like.Goals.{then-has_like, else-has_like}

pub loop-replica-preserved : goal.loop-replica-preserved
loop-replica-preserved c =
    let test = λ (s : ℕ). is_like c.args.ballot.now (held c.args.self.now s) in
    elim c.if-has_like.branch [
      | then-has_like w ↦ (w.count-is ∙ one_more test c.loop-replica.replica c.loop-replica.count c.loop-replica.invariant.0 (sym c.has_like.ensures ∙ w.if-has_like.true), omega arith)
      | else-has_like w ↦ (w.count-is ∙ no_more test c.loop-replica.replica c.loop-replica.count c.loop-replica.invariant.0 (sym c.has_like.ensures ∙ w.if-has_like.false), omega arith)
    ]

use Rattle.std.proofs.Common.{arith, rules, ◌≡◌, ◌+◌, ◌*◌, ◌<◌, true, false, List, [], ◌∷◌, ◌++◌, refl, map, subst, sym}
use Rattle.std.specs.List.{range_with_len}
use Rattle.terms.specs.declared.parties.ReplicaId.{ReplicaId}
use Rattle.protocol.specs.System.Configuration.{is_correct_replica}
use Rattle.journal.specs.Histories.{correct_of}
use Rattle.space_node.proofs.NewParties.{none_correct, one_correct}
use Rattle.space_node.proofs.faultless.correct_replicas.Goals as goal
use Rattle.space_node.proofs.faultless.correct_replicas.Goals.{then-is_correct_replica+in_ok-push, else-is_correct_replica}

pub loop-number-preserved : goal.loop-number-preserved
loop-number-preserved c =
    let config = c.args.config.now in
    let n = c.loop-number.number in
    let before = c.loop-number.replicas.items in
    let most = c.faults-faults.ensures.valid.most in
    let count : c.replicas-number-end.result ≡ 3 * config.faults + 1 = c.replicas-number-end.ensures.value in
    let low : n < 256 = omega (arith, most, count, c.loop-number-test.true) in
    elim c.if-is_correct_replica.branch [
      | then-is_correct_replica+in_ok-push w ↦
          let is : is_correct_replica config n ≡ true = search rules in
          let replica : ReplicaId = record { 0 = n } in
          let more : c.if-is_correct_replica.replicas.items ≡ before ++ replica ∷ [] = search rules in
          one_correct config n before c.if-is_correct_replica.replicas.items replica low is refl more c.loop-number.invariant
      | else-is_correct_replica w ↦
          let is : is_correct_replica config n ≡ false = search rules in
          let same : c.if-is_correct_replica.replicas.items ≡ before = search rules in
          subst (λ (rs : List ReplicaId). map (λ (r : ReplicaId). r.0) rs ≡ correct_of config (range_with_len 0 (n + 1))) (sym same)
          (none_correct config n before low is c.loop-number.invariant)
    ]

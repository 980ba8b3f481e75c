use Rattle.std.proofs.Common.{rules, ◌≡◌, [], true, false}
use Rattle.space_node.specs.Drills.{are_faulty_once, replicas_of}
use Rattle.space_node.proofs.Drilled.{not_once, whole}
use Rattle.space_node.proofs.drill.may_start.Goals as goal
use Rattle.space_node.proofs.drill.may_start.Goals.{then-has_correct_clients, else-has_correct_clients}

pub returns-then-are_of_faulty : goal.returns-then-are_of_faulty
returns-then-are_of_faulty c =
    let config = c.args.config.now in
    let rs = replicas_of c.args.drills.now in
    elim c.if-has_correct_clients.branch [
      | then-has_correct_clients w ↦
          let clients : config.faulty_clients ≡ [] = search rules in
          let once : are_faulty_once config rs ≡ true = cc in
          whole config rs c.is_drilled.result clients once c.is_drilled.ensures
      | else-has_correct_clients w ↦ absurd cc
    ]

pub returns-else-are_of_faulty : goal.returns-else-are_of_faulty
returns-else-are_of_faulty c =
    let config = c.args.config.now in
    let rs = replicas_of c.args.drills.now in
    elim c.if-has_correct_clients.branch [
      | then-has_correct_clients w ↦
          let once : are_faulty_once config rs ≡ false = cc in
          (λ t. absurd cc, λ may. absurd (not_once config rs once may))
      | else-has_correct_clients w ↦ (λ t. absurd cc, λ may. search (rules, may.0))
    ]

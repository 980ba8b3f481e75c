use Rattle.std.proofs.Common.{◌++◌, ◌∙◌, ap, sym, append_assoc}
use Rattle.std.specs.Prelude.{[], ◌∷◌}
use Rattle.std.specs.List.{range_with_len}
use Rattle.authenticator.specs.Dealing.{others_among}
use Rattle.party_keys.proofs.Numbers.{other_more, same_more}
use Rattle.party_keys.proofs.lists.push_replicas.Goals as goal
use Rattle.party_keys.proofs.lists.push_replicas.Goals.{then-party-me+in_ok-push, else-party-me}

pub loop-party-preserved : goal.loop-party-preserved
loop-party-preserved c =
    let old = c.args.parties.now.items in
    let done = others_among (range_with_len 0 c.loop-party.party) c.args.me in
    elim c.if-party-me.branch [
      | then-party-me+in_ok-push w ↦ ap (λ v. v.items) w.parties-is ∙ (w.in_ok-push.ensures {u = tt}).items
          ∙ ap (λ xs. xs ++ c.loop-party.party ∷ []) c.loop-party.invariant
          ∙ append_assoc old done (c.loop-party.party ∷ [])
          ∙ ap (λ xs. old ++ xs) (sym (other_more c.args.me c.loop-party.party w.if-party-me.true))
      | else-party-me w ↦ ap (λ v. v.items) w.parties-is ∙ c.loop-party.invariant
          ∙ ap (λ xs. old ++ xs) (sym (same_more c.args.me c.loop-party.party w.if-party-me.false))
    ]

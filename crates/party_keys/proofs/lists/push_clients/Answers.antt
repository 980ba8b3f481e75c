use Rattle.std.proofs.Common.{◌+◌, ◌++◌, ◌∙◌, ap, sym, append_assoc}
use Rattle.std.specs.Prelude.{[], ◌∷◌}
use Rattle.std.specs.List.{range_with_len}
use Rattle.terms.specs.declared.parties.TheConstants.{FIRST_CLIENT}
use Rattle.party_keys.proofs.Numbers.{numbers_more}
use Rattle.party_keys.proofs.lists.push_clients.Goals as goal

pub loop-client-preserved : goal.loop-client-preserved
loop-client-preserved c =
    (c.in_ok-push.ensures {u = tt}).items
    ∙ ap (λ xs. xs ++ (FIRST_CLIENT + c.loop-client.client) ∷ []) c.loop-client.invariant
    ∙ append_assoc c.args.parties.now.items (range_with_len FIRST_CLIENT c.loop-client.client) ((FIRST_CLIENT + c.loop-client.client) ∷ [])
    ∙ ap (λ xs. c.args.parties.now.items ++ xs) (sym (numbers_more FIRST_CLIENT c.loop-client.client))

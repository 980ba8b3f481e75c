use Rattle.std.proofs.Common.{◌≡◌, [], All, length, map}
use Rattle.journal.specs.Parts.{Part}
use Rattle.space_node.specs.Places.{clients_among}
use Rattle.space_node.proofs.Orders.{AreLeft}
use Rattle.space_node.proofs.parties.new_parties.Given as goal

abbrev pub invariant-loop-share : goal.invariant-loop-share
invariant-loop-share g l =
    All (λ (o : Part). o.history ≡ []) l.orders.items
    × (map (λ e. e.state.party) l.parties.client_ends.items ≡ clients_among (map (λ (s : Part). s.party) l.yielded))
    × AreLeft l.fn.shares.items l.orders.items (length l.yielded)

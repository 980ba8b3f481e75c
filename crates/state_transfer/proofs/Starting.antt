-- The parts of a new transfer.
use Rattle.std.proofs.Common.{List, ℕ, Option, None, replicate}
use Rattle.std.proofs.lemmas.List.Elements.{All-replicate}
use Rattle.std.specs.List.{All}
use Rattle.std.specs.Option.{ForSome}
use Rattle.state_transfer.specs.Keeping.{AreOfChildren}

-- No digests of children are known.
pub all_untold : All (λ (digests : Option (List (List ℕ))). ForSome digests AreOfChildren) (replicate 32 None)
all_untold = All-replicate (λ (digests : Option (List (List ℕ))). ForSome digests AreOfChildren) 32 None (λ x e. cc)

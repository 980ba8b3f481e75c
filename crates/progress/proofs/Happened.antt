-- The entry at which something happened, its past, and the entries after it.
use Rattle.std.proofs.Common.{◌≡◌, inl, inr, List, [], ◌∷◌, ◌++◌, refl, ap}
use Rattle.protocol.specs.System.Trace.{Entry, Once}

pub record At (P : List Entry → Entry → Type 0) (xs : List Entry) : Type 0 where
  pub newer : List Entry
  pub entry : Entry
  pub past : List Entry
  pub splits : xs ≡ newer ++ entry ∷ past
  pub holds : P past entry

pub once_at : (P : List Entry → Entry → Type 0) (xs : List Entry) → Once P xs → At P xs
once_at P [] h = absurd h
once_at P (e ∷ past) (inl h) = record { newer = []; entry = e; past = past; splits = refl; holds = h }
once_at P (e ∷ past) (inr h) = let b = once_at P past h in record { newer = e ∷ b.newer; entry = b.entry; past = b.past; splits = ap (λ (xs : List Entry). e ∷ xs) b.splits; holds = b.holds }

-- A step of a machine.
use Rattle.std.specs.Prelude.{◌≡◌, ℕ, Bool, MatchBool, List, [], ◌∷◌, ◌++◌}
use Rattle.lives.specs.Events.{Event}

-- The machine takes an input, and its outputs are appended. If the input moved it, it fits each history that it fitted,
-- longer by this event. If not, there are no outputs, and it fits each history that it fitted.
pub record Steps {M : Type 0} (fits : M → List Event → Type 0) (old new : M)
    (input before after : List ℕ) (moved : Bool) : Type 0 where
  pub outputs : List ℕ
  pub given : after ≡ before ++ outputs
  pub leads : (history : List Event) → fits old history
      → MatchBool moved (fits new (history ++ (input, outputs) ∷ [])) ((outputs ≡ []) × fits new history)

-- Words of the private functions that search the stored view changes.
use Rattle.std.specs.Prelude.{ℕ, List, [], ◌∷◌, min, bytes_eq, if◌then◌else◌, Option, Some, None}
use Rattle.std.specs.Option.{option_map_or}
use Rattle.view_change.specs.ReceivedData.{HeldData}

-- the first view change that is stored with this frame
abbrev pub held_with_frame : List ℕ → List (Option HeldData) → Option HeldData
held_with_frame bytes [] = None
held_with_frame bytes (None ∷ held) = held_with_frame bytes held
held_with_frame bytes (Some h ∷ held) = if bytes_eq h.frame bytes then Some h else held_with_frame bytes held

-- the lesser of a view and another one, if there is another; the least of all
abbrev pub lesser : ℕ → Option ℕ → ℕ
lesser view other = option_map_or (λ o. min o view) other view

abbrev pub least_of : List ℕ → Option ℕ
least_of [] = None
least_of (view ∷ views) = Some (lesser view (least_of views))

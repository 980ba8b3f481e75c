-- Lists written one after another.
use Rattle.std.specs.Prelude.{ℕ, zero, suc, List, [], ◌++◌}

-- f 0, f 1, .., f (n - 1), end to end
unfoldable pub end_to_end : ℕ → (ℕ → List ℕ) → List ℕ
end_to_end zero f = []
end_to_end (suc n) f = end_to_end n f ++ f n

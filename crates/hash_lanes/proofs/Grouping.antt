-- The words of eight rounds.
use Rattle.std.proofs.Common.{◌≡◌, ℕ, zero, suc, ◌+◌, ◌*◌, ◌<◌, List, [], ◌∷◌, slice_index, ap, ◌∙◌, arith}
use Rattle.sha2.specs.Sha256.{schedule}
use Rattle.hash_lanes.specs.Rounds.{HoldsGroup, HoldsSchedule}

-- eight words are a group of a schedule, if each is the word at its place
pub grouped : (b ws : List ℕ) (turn s t u v w x y z : ℕ) → turn < 8 → HoldsSchedule b ws
    → s ≡ slice_index ws (8 * turn) → t ≡ slice_index ws (8 * turn + 1) → u ≡ slice_index ws (8 * turn + 2) → v ≡ slice_index ws (8 * turn + 3)
    → w ≡ slice_index ws (8 * turn + 4) → x ≡ slice_index ws (8 * turn + 5) → y ≡ slice_index ws (8 * turn + 6) → z ≡ slice_index ws (8 * turn + 7)
    → HoldsGroup b turn (s ∷ t ∷ u ∷ v ∷ w ∷ x ∷ y ∷ z ∷ [])
grouped b ws turn s t u v w x y z below holds one two three four five six seven last = go
  where
    all : List ℕ
    all = schedule b 48

    go : HoldsGroup b turn (s ∷ t ∷ u ∷ v ∷ w ∷ x ∷ y ∷ z ∷ [])
    go zero lt = one ∙ holds (8 * turn) (omega arith) ∙ ap (slice_index all) (omega arith)
    go (suc zero) lt = two ∙ holds (8 * turn + 1) (omega arith)
    go (suc (suc zero)) lt = three ∙ holds (8 * turn + 2) (omega arith)
    go (suc (suc (suc zero))) lt = four ∙ holds (8 * turn + 3) (omega arith)
    go (suc (suc (suc (suc zero)))) lt = five ∙ holds (8 * turn + 4) (omega arith)
    go (suc (suc (suc (suc (suc zero))))) lt = six ∙ holds (8 * turn + 5) (omega arith)
    go (suc (suc (suc (suc (suc (suc zero)))))) lt = seven ∙ holds (8 * turn + 6) (omega arith)
    go (suc (suc (suc (suc (suc (suc (suc zero))))))) lt = last ∙ holds (8 * turn + 7) (omega arith)
    go (suc (suc (suc (suc (suc (suc (suc (suc k)))))))) lt = absurd (omega arith)

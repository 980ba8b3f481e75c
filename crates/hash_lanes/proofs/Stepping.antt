-- One round more.
use Rattle.std.proofs.Common.{◌≡◌, ℕ, ◌+◌, List, slice_index, refl, ap, ◌∙◌}
use Rattle.sha2.specs.Sha256.{round, round_constants, rounds, schedule}
use Rattle.sha2.proofs.Schedule256.{rounds_next}
use Rattle.hash_lanes.specs.Rounds.{IsAfterRounds}

-- a round by its constant and its word of the schedule
pub one_round : (h b v : List ℕ) (t k x : ℕ) (next : List ℕ) → IsAfterRounds h b t v → k ≡ slice_index round_constants t
    → x ≡ slice_index (schedule b 48) t → next ≡ round v k x → IsAfterRounds h b (t + 1) next
one_round h b v t k x next before constant word is = rw is (rw (rounds_next h (schedule b 48) t, ← before, constant, word) refl)

-- the same number of rounds, written in another way
pub rounds_at : (h b v : List ℕ) (t n : ℕ) → t ≡ n → IsAfterRounds h b t v → IsAfterRounds h b n v
rounds_at h b v t n same after = after ∙ ap (rounds h (schedule b 48)) same

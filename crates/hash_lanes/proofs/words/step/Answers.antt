use Rattle.std.proofs.Common.{◌≡◌, ℕ, ◌+◌, ◌*◌, ◌%◌, ◌∙◌, arith, refl}
use Rattle.sha2.proofs.Schedule256.{IsRoundsAt_at, rounds_window, window_word_place}
use Rattle.hash_lanes.proofs.words.step.Goals as goal

pub returns : goal.returns
returns c = λ b h before.
    let w = c.args.window.now in
    let t : ℕ = 16 * c.args.turn + c.args.place in
    let same : t % 16 ≡ c.args.place = omega arith in
    let word = c.move_window-word.ensures in
    IsRoundsAt_at b h _ _ (t + 1) _ (omega arith)
    (rounds_window b h w c.args.v t _ _ _ _ (omega arith) (omega arith) before.0 before.1
    (word.value ∙ window_word_place w c.args.turn c.args.place) (rw same word.moved) refl c.round.ensures)

-- The line of a call has its client first.
use Rattle.std.proofs.Common.{◌≡◌, ◌≢◌, ℕ, ◌+◌, ◌<◌, ◌^◌, List, [], length, arith, refl, sym, ap, ◌∙◌}
use Rattle.std.specs.Prelude.{codes}
use Rattle.std.specs.Fmt.{decimal}
use Rattle.std.proofs.lemmas.Fmt.{decimal_nonempty}
use Rattle.protocol.specs.System.Schedule.{Step}
use Rattle.protocol.specs.System.Schedule.Step.{calls, deliver, feed, seal, sign, ticks, flush}
use Rattle.schedule_text.specs.Words.{first_word}
use Rattle.schedule_text.specs.Reading.{ClientText, IsNamed}
use Rattle.schedule_text.proofs.Numbers.{differ}

abbrev HasClient : List ℕ → Type 0
HasClient line = (k : ℕ) × (first_word line ≢ []) × ClientText k (first_word line)

pub call_has_client : (line : List ℕ) (step : Step) → IsNamed (codes "invoke") line step → HasClient line
call_has_client line (calls k op) h =
    let few : 256 + k < 2 ^ 16 = h.range in
    let some : 0 < length (decimal k) = decimal_nonempty k (omega arith) in
    let text : first_word line ≡ decimal k = h.arguments.0 in
    (k, (λ e. let none : length (decimal k) ≡ 0 = ap length (sym text ∙ e) in omega arith), (text, few))
call_has_client line (deliver frame party) h = absurd (differ 100 105 (codes "eliver") (codes "nvoke") refl h.named)
call_has_client line (feed party bytes) h = absurd (differ 98 105 (codes "ytes") (codes "nvoke") refl h.named)
call_has_client line (seal sender receivers body) h = absurd (differ 115 105 (codes "eal") (codes "nvoke") refl h.named)
call_has_client line (sign replica leaf receivers body) h = absurd (differ 115 105 (codes "ign") (codes "nvoke") refl h.named)
call_has_client line (ticks party) h = absurd (differ 116 105 (codes "ick") (codes "nvoke") refl h.named)
call_has_client line flush h = absurd (differ 102 105 (codes "lush") (codes "nvoke") refl h.named)

-- Codes of replies, by which a proof distinguishes them.
use Rattle.std.specs.Prelude.{ℕ, refl}
use Rattle.std.specs.Coded.{Coded, code_by, coded_list, coded_option, coded×, coded_ℕ}
use Rattle.tuple_codec.specs.Operations.{Outcome}
use Rattle.tuple_codec.specs.OperationsCode.{outcome_code}
use Rattle.reply_cache.specs.Replies.{Kept, Replies}

abbrev pub kept_code : Coded Kept
kept_code =
    code_by (ℕ × (ℕ × Outcome)) (coded× coded_ℕ (coded× coded_ℕ outcome_code))
    (λ k. (k.timestamp, (k.number, k.outcome)))
    (λ p. record { timestamp = p.0; number = p.1.0; outcome = p.1.1 }) (λ _. refl)

abbrev pub replies_code : Coded Replies
replies_code = coded_list (coded_option kept_code)

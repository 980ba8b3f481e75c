use Rattle.std.proofs.Common.{ℕ, Option, MatchOption, sym, subst, arith}
use Rattle.std.proofs.lemmas.List.{take_all, length-drop}
use Rattle.event_log.specs.Groups.{IsNoBody, IsBodyOf}
use Rattle.event_log.proofs.Making.{not_below, numbers_overflow}
use Rattle.event_log.proofs.groups.whole_body.Goals as goal

pub returns-in_err-checked_add : goal.returns-in_err-checked_add
returns-in_err-checked_add c =
    let bytes = c.args.bytes.now in
    subst (λ (r : Option (ℕ × ℕ)). MatchOption r (IsNoBody bytes) (λ r. IsBodyOf bytes r.0 r.1)) (sym c.from_residual-in_err-checked_add.ensures)
    (numbers_overflow bytes _ c.from_be_bytes-number.result c.in_ok-count.count c.from_be_bytes-number.ensures
    (take_all _ _ (omega (arith, length-drop 8 bytes))) c.in_ok-count.ensures (not_below _ c.in_err-checked_add.ensures))

use Rattle.std.proofs.Common.{◌≡◌, ◌<◌, ℕ, true, subst, get_or}
use Rattle.tuple_text.specs.Literals.{is_plain}
use Rattle.tuple_text.proofs.PlainText.{further}
use Rattle.tuple_text.proofs.literals.long_plain_len.Goals as goal

pub returns-clause-plain : goal.returns-clause-plain
returns-clause-plain c =
    further is_plain c.args.bytes.now c.plain_groups-groups.result c.plain_front.result c.plain_groups-groups.ensures.plain
    (subst (λ xs. (k : ℕ) → k < c.plain_front.result → is_plain (get_or xs k 0) ≡ true) c.split_at.ensures.back c.plain_front.ensures.plain)

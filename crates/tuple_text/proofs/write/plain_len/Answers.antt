use Rattle.std.proofs.Common.{◌≡◌, ◌<◌, ℕ, false, subst, get_or}
use Rattle.tuple_text.specs.Written.{is_escaped}
use Rattle.tuple_text.proofs.Writing.{further}
use Rattle.tuple_text.proofs.write.plain_len.Goals as goal

pub returns-clause-plain : goal.returns-clause-plain
returns-clause-plain c =
    further is_escaped c.args.text.now c.plain_groups-groups.result c.plain_front.result c.plain_groups-groups.ensures.plain
    (subst (λ xs. (k : ℕ) → k < c.plain_front.result → is_escaped (get_or xs k 0) ≡ false) c.split_at.ensures.back c.plain_front.ensures.plain)

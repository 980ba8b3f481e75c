use Rattle.std.proofs.Common.{◌≡◌, ◌≢◌, ℕ, ◌<◌, length, get_or, ltb, subst, sym, ◌∙◌, arith, rules}
use Rattle.std.specs.Prelude.{AllPairs}
use Rattle.std.proofs.lemmas.List.Sorted.{IsPartitionPoint-from_clause}
use Rattle.std.proofs.lemmas.List.{get_or_default}
use Rattle.space.specs.Ages.{births_without}
use Rattle.space.proofs.Ages.{without-at, without-none, absent, rising_numbers}
use Rattle.space.proofs.birth_list.BirthList.remove.Goals as goal
use Rattle.space.proofs.birth_list.BirthList.remove.Goals.{then-place-births-via-then-place-births}
use Rattle.space.proofs.birth_list.BirthList.remove.Goals.{then-place-births-via-else-place-births+then-births-place}

pub returns-then-place-births : goal.returns-then-place-births
returns-then-place-births c rising =
    let xs = c.as_slice-births.result.now in
    let b = c.args.birth in
    let place = c.partition_point-place.result in
    let h = subst (AllPairs (λ a b. a < b)) (sym c.as_slice-births.ensures) rising in
    let point = IsPartitionPoint-from_clause (λ x. ltb x b) xs place c.partition_point-place.ensures.partitioned (rising_numbers xs b h) (λ a r q k. search rules) in
    let none : (d : ℕ) → place < length xs → get_or xs place d ≢ b =
    λ d l e. elim c.then-place-births.branch [
      | then-place-births-via-then-place-births w ↦ omega arith
      | then-place-births-via-else-place-births+then-births-place w ↦ w.if-births-place.true (get_or_default xs place 0 d l ∙ e)
    ] in
    subst (λ zs. zs ≡ births_without b zs) c.as_slice-births.ensures (sym (without-none xs b (absent xs b place h point none)))

pub returns : goal.returns
returns c rising =
    let same = c.as_slice-births.ensures in
    let place = c.partition_point-place.result in
    c.remove_at.ensures
    ∙ sym (without-at c.args.self.now.births place c.args.birth rising (subst (λ zs. place < length zs) same c.if-place-births.false) (subst (λ zs. get_or zs place 0 ≡ c.args.birth) same c.if-births-place.false))

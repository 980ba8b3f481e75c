use Rattle.std.proofs.Common.{ℕ, List, Some, None, rules}
use Rattle.std.specs.Prelude.{nat_lt}
use Rattle.std.proofs.lemmas.List.Sorted.{IsPartitionPoint-from_clause, IsPartitionedBy-ltb}
use Rattle.points.specs.declared.levels.Rise.{Rise}
use Rattle.points.proofs.Finding.{first_is}
use Rattle.points.proofs.places.Places.first.Goals as goal

pub returns-in-Some : goal.returns-in-Some
returns-in-Some c =
    let xs : List Rise = c.args.self.now.rises.items in
    let k : ℕ = c.args.number.0 in
    let i : ℕ = c.partition_point-passed.result in
    first_is xs k i (Some c.in-Some.rise) (rw c.as_slice.ensures.value at c.partition_point-passed.ensures.bound)
    (IsPartitionPoint-from_clause (λ (x : Rise). nat_lt x.level k) xs i (rw c.as_slice.ensures.value at c.partition_point-passed.ensures.partitioned)
    (IsPartitionedBy-ltb (λ (x : Rise). x.level) xs k c.args.self.now.rising) (λ a r q h. search rules))
    (rw c.as_slice-2.ensures.value at c.in-Some.ensures.lookup)

pub returns-in-None : goal.returns-in-None
returns-in-None c =
    let xs : List Rise = c.args.self.now.rises.items in
    let k : ℕ = c.args.number.0 in
    let i : ℕ = c.partition_point-passed.result in
    first_is xs k i None (rw c.as_slice.ensures.value at c.partition_point-passed.ensures.bound)
    (IsPartitionPoint-from_clause (λ (x : Rise). nat_lt x.level k) xs i (rw c.as_slice.ensures.value at c.partition_point-passed.ensures.partitioned)
    (IsPartitionedBy-ltb (λ (x : Rise). x.level) xs k c.args.self.now.rising) (λ a r q h. search rules))
    (rw c.as_slice-2.ensures.value at c.in-None.ensures.lookup)

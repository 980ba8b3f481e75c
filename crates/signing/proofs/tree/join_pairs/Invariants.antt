use Rattle.std.proofs.Common.{◌≡◌, ◌+◌, ◌-◌, ◌^◌, ◌<◌, ◌≤◌, ℕ, List, [], get_or, length}
use Rattle.signing.specs.Merkle.{node}
use Rattle.signing.proofs.tree.join_pairs.Given as goal

-- the nodes from here on are there
abbrev pub invariant-loop-i : goal.invariant-loop-i
invariant-loop-i l = record {
  whole : length l.nodes ≡ 128;
  done : (leaves : ℕ → List ℕ) → ((leaf : ℕ) → leaf < 64 → get_or l.initial.nodes (64 + leaf) [] ≡ leaves leaf)
      → (level place : ℕ) → level ≤ 6 → place < 2 ^ (6 - level) → l.i ≤ 2 ^ (6 - level) + place → get_or l.nodes (2 ^ (6 - level) + place) [] ≡ node leaves level place;
}

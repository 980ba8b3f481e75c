use Rattle.std.proofs.Common.{◌≤◌, IfSome, vec_len, vec_capacity}
use Rattle.records.specs.Taking.{TakesMore}
use Rattle.records.proofs.taking.fill.Given as goal

-- the bytes taken so far stand in the body, which has room for the others
abbrev pub invariant-loop : goal.invariant-loop
invariant-loop g l = record {
  room : vec_capacity l.fn.body ≤ vec_capacity l.body;
  short : vec_len l.body ≤ l.count;
  taken : IfSome (g.B.Read.remaining l.fn.reader) (λ xs. TakesMore xs (g.B.Read.remaining l.reader) l.fn.body.items l.body.items);
}

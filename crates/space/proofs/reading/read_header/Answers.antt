use Rattle.std.proofs.Common.{sym, arith}
use Rattle.space.specs.Pages.{version_byte}
use Rattle.space.proofs.Fronts.{header_found, header_numbers}
use Rattle.space.proofs.reading.read_header.Goals as goal
use Rattle.space.proofs.reading.read_header.Goals.{else-number-lt-NUMBERS_END-via-then-number-lt-NUMBERS_END+else-next-number}
use Rattle.space.proofs.reading.read_header.Goals.{else-number-lt-NUMBERS_END-via-else-number-lt-NUMBERS_END}

pub returns-then-next-number-clause-found : goal.returns-then-next-number-clause-found
returns-then-next-number-clause-found c = record {
  spelled = header_found c.args.header.now c.split_at.result.1.now c.split_at-2.result.1.now (version_byte c.in-Some.version) c.read_u64-number.result c.read_u64-next.result (omega arith) (λ i. omega (arith, c.type_inv.header i))
      (sym c.in-Some.ensures.found) c.split_at.ensures.back c.split_at-2.ensures.back c.read_u64-number.ensures c.read_u64-next.ensures;
  births = omega arith;
  few = omega arith;
}

pub returns-else-number-lt-NUMBERS_END-clause-only : goal.returns-else-number-lt-NUMBERS_END-clause-only
returns-else-number-lt-NUMBERS_END-clause-only c v number next is =
    let same = header_numbers c.args.header.now c.split_at.result.1.now c.split_at-2.result.1.now v c.read_u64-number.result c.read_u64-next.result number next
    c.split_at.ensures.back c.split_at-2.ensures.back c.read_u64-number.ensures c.read_u64-next.ensures is in
    let few = is.few in
    let births = is.births in
    absurd (elim c.else-number-lt-NUMBERS_END.branch [
      | else-number-lt-NUMBERS_END-via-then-number-lt-NUMBERS_END+else-next-number w ↦ omega arith
      | else-number-lt-NUMBERS_END-via-else-number-lt-NUMBERS_END w ↦ omega arith
    ])

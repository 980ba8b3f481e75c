use Rattle.std.proofs.Common.{arith}
use Rattle.std.proofs.lemmas.Result.{err_from_is_err_and}
use Rattle.space.proofs.Loading.{latest, IsFrontRead-more, no_more, next_there, not_empty}
use Rattle.space.proofs.reading.read_page.Goals as goal

pub returns-then-count-ge-MAX_ON_PAGE-clause-only : goal.returns-then-count-ge-MAX_ON_PAGE-clause-only
returns-then-count-ge-MAX_ON_PAGE-clause-only c es valid spelled =
    let none = no_more c.args.version c.args.page c.args.next c.args.text.now c.args.tuples.now.entries c.loop-rest.tuples.entries c.loop-rest.rest.now c.loop-rest.count c.loop-rest.least c.loop-rest.invariant
    (omega arith) es valid spelled (omega arith) in
    absurd (not_empty c.loop-rest.rest.now (c.loop-rest-test.ensures {u = tt}) none)

pub returns-in_err-entry-clause-only : goal.returns-in_err-entry-clause-only
returns-in_err-entry-clause-only c es valid spelled =
    let there = next_there c.args.version c.args.page c.args.next c.args.text.now c.args.tuples.now.entries c.loop-rest.tuples.entries c.loop-rest.rest.now c.loop-rest.count c.loop-rest.least c.loop-rest.invariant
    (omega arith) es valid spelled (not_empty c.loop-rest.rest.now (c.loop-rest-test.ensures {u = tt})) in
    let bad = (c.in_err-entry.ensures {u = tt}).only there.0 there.1 there.2 there.3 in
    let p = err_from_is_err_and c.from_residual.result c.from_residual.ensures.1 in
    rw (p.1, p.2) bad

pub add_entry-requires-clause-latest : goal.add_entry-requires-clause-latest
add_entry-requires-clause-latest c =
    latest c.args.version c.args.page c.args.next c.args.text.now c.args.tuples.now.entries c.loop-rest.tuples.entries c.loop-rest.rest.now c.loop-rest.count c.loop-rest.least c.loop-rest.invariant
    c.in_ok-entry.entry (c.in_ok-entry.ensures {u = tt}).found.0

pub loop-rest-preserved : goal.loop-rest-preserved
loop-rest-preserved c =
    IsFrontRead-more c.args.version c.args.page c.args.next c.args.text.now c.args.tuples.now.entries c.loop-rest.tuples.entries c.loop-rest.rest.now c.loop-rest.count c.loop-rest.least c.loop-rest.invariant
    c.in_ok-entry.entry c.in_ok-entry.after.now c.add_entry.new.tuples.entries (c.in_ok-entry.ensures {u = tt}).found.0 (c.in_ok-entry.ensures {u = tt}).found.1 (omega arith) (c.in_ok-add_entry.ensures {u = tt})

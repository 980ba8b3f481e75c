-- From text to text.
use Rattle.std.proofs.Common.{arith, refl}
use Rattle.space_library.proofs.Cutting.{one_cut, one_counted, too_long}
use Rattle.space_library.proofs.paging.cut_pages.Goals as goal

pub loop-len-preserved : goal.loop-len-preserved
loop-len-preserved c =
    let so_far = c.loop-len.invariant in
    let ns = c.args.lengths.now in
    let i = c.loop-len.len-index in
    let parts = c.split_at.ensures in
    let left = parts.back_len in record {
      pages = one_cut ns i _ c.loop-len.pages.items _ _ c.loop-len.rest.now _ _ (omega arith) refl c.in-Ok.ensures.items parts.front parts.back so_far.pages;
      count = one_counted ns i _ _ _ _ (omega arith) refl (omega arith) (omega (arith, left)) so_far.count;
    }

pub returns-then-len-rest-clause-malformed : goal.returns-then-len-rest-clause-malformed
returns-then-len-rest-clause-malformed c _ =
    too_long c.args.lengths.now c.loop-len.len-index _ _ _ (omega arith) refl (omega arith) c.loop-len.invariant.count

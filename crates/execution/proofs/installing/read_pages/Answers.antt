use Rattle.std.proofs.Common.{◌∙◌}
use Rattle.std.proofs.lemmas.Result.{err_from_is_err_and}
use Rattle.execution.proofs.Restoring.{none_behind, space_pages, reply_pages, has_pages}
use Rattle.execution.proofs.installing.read_pages.Goals as goal

pub returns-then-not-are_none_behind-clause-malformed :
    goal.returns-then-not-are_none_behind-clause-malformed
returns-then-not-are_none_behind-clause-malformed c e st has =
    let is = c.are_none_behind.ensures.1 (none_behind c.args.number.0 c.args.pages.now st has) in
    cc

pub returns-in_err-space-clause-malformed : goal.returns-in_err-space-clause-malformed
returns-in_err-space-clause-malformed c e st has =
    let pages = space_pages c.args.number.0 c.args.pages.now _ _ st c.texts_from-tuples.ensures c.page.ensures.text has in
    let bad = (c.in_err-space.ensures {u = tt}).only st.space st.number pages in
    let p = err_from_is_err_and c.from_residual.result c.from_residual.ensures.1 in
    cc

pub returns-then-batches-number-clause-malformed :
    goal.returns-then-batches-number-clause-malformed
returns-then-batches-number-clause-malformed c e st has =
    let pages = space_pages c.args.number.0 c.args.pages.now _ _ st c.texts_from-tuples.ensures c.page.ensures.text has in
    let same = (c.in_ok-space.ensures {u = tt}).only st.space st.number pages in
    c.if-batches-number.true (same.1 ∙ has.number)

pub returns-in_err-replies-clause-malformed : goal.returns-in_err-replies-clause-malformed
returns-in_err-replies-clause-malformed c e st has =
    let pages = reply_pages c.args.number.0 c.args.pages.now _ st c.texts_from.ensures has in
    let bad = (c.in_err-replies.ensures {u = tt}).only st.replies pages in
    let p = err_from_is_err_and c.from_residual-in_err-replies.result c.from_residual-in_err-replies.ensures.1 in
    cc

pub returns-clause-found : goal.returns-clause-found
returns-clause-found c =
    let space = (c.in_ok-space.ensures {u = tt}).found in
    let replies = (c.in_ok-replies.ensures {u = tt}).found in
    has_pages c.args.number.0 c.in_ok-space.batches c.args.pages.now _ _ _ c.in_ok-space.space c.in_ok-replies.replies c.page.ensures.count
    (c.are_none_behind.ensures.0 c.if-not-are_none_behind.false) c.texts_from-tuples.ensures c.page.ensures.text space c.if-batches-number.false c.texts_from.ensures replies

use Rattle.std.proofs.Common.{◌≡◌, ◌≤◌, [], length, map, get_or, sym, ap, subst, arith, ◌∙◌}
use Rattle.std.proofs.lemmas.List.{get_or-map}
use Rattle.std.proofs.lemmas.Result.{err_from_is_err_and}
use Rattle.space.specs.Applying.{most_tuples}
use Rattle.space.specs.Counted.{IsIndexed}
use Rattle.space.specs.Pages.{entries_text, on_page}
use Rattle.space.specs.Reading.{IsPage, ArePagesRead, ArePagesOf}
use Rattle.space.proofs.Restoring.{ArePagesRead-none, ArePagesRead-more, IsPage-of_state, same_entries, IsCounted-read}
use Rattle.space.proofs.Restoring.{ArePagesOf-read}
use Rattle.space.proofs.tuples.Space.with_pages.Goals as goal

pub loop-page-init : goal.loop-page-init
loop-page-init c =
    subst (λ es. ArePagesRead c.args.version 0 c.args.next (map (λ page. page.now) c.args.pages.now) es c.empty_pages-page_counts.result) (sym c.new-tuples.ensures.empty)
    (ArePagesRead-none c.args.version c.args.next (map (λ page. page.now) c.args.pages.now) c.empty_pages-page_counts.result c.empty_pages-page_counts.ensures.none c.empty_pages-page_counts.ensures.len)

pub returns-in_err-page_counts-clause-only : goal.returns-in_err-page_counts-clause-only
returns-in_err-page_counts-clause-only c s of =
    let page = c.loop-page.page in
    let valid = subst (λ n. IsPage page n (on_page page s.entries)) of.same_next (IsPage-of_state s page of.state) in
    let bad = (c.in_err-page_counts.ensures {u = tt}).only (on_page page s.entries) valid (sym (get_or-map (λ p. p.now) c.args.pages.now page (record { ref_ptr = (0, 0); now = [] }) [] (omega arith)) ∙ of.each page (omega arith) ∙ ap (λ v. entries_text v (on_page page s.entries)) of.version) in
    let p = err_from_is_err_and c.from_residual.result c.from_residual.ensures.1 in
    rw (p.1, p.2) bad

pub loop-page-preserved : goal.loop-page-preserved
loop-page-preserved c =
    ArePagesRead-more c.args.version c.loop-page.page c.args.next (map (λ page. page.now) c.args.pages.now) (get_or c.args.pages.now c.loop-page.page (record { ref_ptr = (0, 0); now = [] })).now c.loop-page.tuples.entries c.read_page.new.tuples.entries c.loop-page.page_counts c.in_ok-page_counts.field-0
    c.loop-page.invariant (omega arith) (get_or-map (λ p. p.now) c.args.pages.now c.loop-page.page (record { ref_ptr = (0, 0); now = [] }) [] (omega arith)) (c.in_ok-page_counts.ensures {u = tt}).found (c.in_ok-page_counts.ensures {u = tt}).count

pub returns-then-len-limit_of-clause-only : goal.returns-then-len-limit_of-clause-only
returns-then-len-limit_of-clause-only c s of =
    let texts = map (λ page. page.now) c.args.pages.now in
    let end : c.loop-page.page ≡ 256 = omega arith in
    let read = subst (λ n. ArePagesRead c.args.version n c.args.next texts c.loop-page.tuples.entries c.loop-page.page_counts) end c.loop-page.invariant in
    let same = same_entries c.args.version c.args.next texts c.loop-page.tuples.entries c.loop-page.page_counts read s (omega arith) of in
    let few : length s.entries ≤ most_tuples c.args.version = subst (λ v. length s.entries ≤ most_tuples v) of.version of.state.count in
    absurd (omega (arith, ap length same))

pub of-requires-2 : goal.of-requires-2
of-requires-2 c = c.loop-page.invariant.rising

pub invariant_of-result : goal.invariant_of-result
invariant_of-result c =
    let texts = map (λ page. page.now) c.args.pages.now in
    let end : c.loop-page.page ≡ 256 = omega arith in
    let read = subst (λ n. ArePagesRead c.args.version n c.args.next texts c.loop-page.tuples.entries c.loop-page.page_counts) end c.loop-page.invariant in
    subst (λ es. IsIndexed c.args.version es c.args.next c.loop-page.page_counts c.in_ok-index.index) (sym (c.in_ok-tuples.ensures {u = tt}))
    (record { counts = IsCounted-read c.args.version c.args.next texts c.loop-page.tuples.entries c.loop-page.page_counts read (omega arith); indexed = c.in_ok-index.ensures {u = tt} })

pub returns-clause-found : goal.returns-clause-found
returns-clause-found c =
    let texts = map (λ page. page.now) c.args.pages.now in
    let end : c.loop-page.page ≡ 256 = omega arith in
    let read = subst (λ n. ArePagesRead c.args.version n c.args.next texts c.loop-page.tuples.entries c.loop-page.page_counts) end c.loop-page.invariant in
    subst (λ es. ArePagesOf c.args.version c.args.next texts (record { version = c.args.version; entries = es; next = c.args.next })) (sym (c.in_ok-tuples.ensures {u = tt}))
    (ArePagesOf-read c.args.version c.args.next texts c.loop-page.tuples.entries c.loop-page.page_counts read (omega arith))

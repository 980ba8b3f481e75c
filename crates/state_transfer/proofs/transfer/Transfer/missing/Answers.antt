use Rattle.std.proofs.Common.{◌≡◌, ◌≢◌, List, [], ℕ, None, Some, get_or, sym, subst, ◌∙◌}
use Rattle.partition_tree.specs.Digests.{root_of, page_digests, inner_digests}
use Rattle.state_transfer.specs.Differences.{IsFirstDifference}
use Rattle.state_transfer.specs.Seeking.{IsFirstMissing}
use Rattle.state_transfer.specs.Transfer.{TransferData, fitting_children}
use Rattle.state_transfer.specs.TransferView.{transfer_data}
use Rattle.state_transfer.proofs.Seeking.{digests_differ, fitting_whole, root_is_first, part_is_first, pages_differ, page_is_first}
use Rattle.state_transfer.proofs.transfer.Transfer.missing.Goals as goal

pub returns-in_default-clause-some : goal.returns-in_default-clause-some
returns-in_default-clause-some c =
    let t : TransferData = transfer_data c.self.inside in
    let differ : root_of t.held ≢ t.root = digests_differ c.eq.result c.root.result t.root (root_of t.held) c.eq.ensures c.if-eq.false c.root.ensures in
    subst (λ (x : TransferData). IsFirstMissing x (record { place = c.root-in_default.result; digest = t.root })) c.self.view_is
    (root_is_first t c.root-in_default.result differ c.in_default.is c.root-in_default.ensures)

pub returns-in_default-pages_of_part-clause-some : goal.returns-in_default-pages_of_part-clause-some
returns-in_default-pages_of_part-clause-some c =
    let t : TransferData = transfer_data c.self.inside in
    let differ : root_of t.held ≢ t.root = digests_differ c.eq.result c.root.result t.root (root_of t.held) c.eq.ensures c.if-eq.false c.root.ensures in
    let digests = c.in-Some.parts in
    let j = c.in_ok-part.part in
    let told = c.self.invariant.root digests c.in-Some.is in
    let first : IsFirstDifference digests (inner_digests t.held) j = subst (λ (held : List (List ℕ)). IsFirstDifference digests held j) c.children.ensures c.in_ok-part.ensures.some in
    let none : fitting_children (get_or digests j []) (get_or t.page_digests j None) ≡ None =
    subst (λ (x : TransferData). fitting_children (get_or digests j []) (get_or x.page_digests j None) ≡ None) (sym c.self.view_is) (sym c.in_default-pages_of_part.ensures) in
    subst (λ (x : TransferData). IsFirstMissing x (record { place = c.inner.result; digest = get_or digests j [] })) c.self.view_is
    (part_is_first t digests c.in-Some.is told.0 differ j first c.inner.result none c.inner.ensures)

pub returns-in_err-page-clause-none : goal.returns-in_err-page-clause-none
returns-in_err-page-clause-none c =
    let t : TransferData = transfer_data c.self.inside in
    let differ : root_of t.held ≢ t.root = digests_differ c.eq.result c.root.result t.root (root_of t.held) c.eq.ensures c.if-eq.false c.root.ensures in
    let digests = c.in-Some.parts in
    let j = c.in_ok-part.part in
    let told = c.self.invariant.root digests c.in-Some.is in
    let first : IsFirstDifference digests (inner_digests t.held) j = subst (λ (held : List (List ℕ)). IsFirstDifference digests held j) c.children.ensures c.in_ok-part.ensures.some in
    let pages = c.in-Some-pages_of_part.pages.now in
    let got : fitting_children (get_or digests j []) (get_or t.page_digests j None) ≡ Some pages =
    subst (λ (x : TransferData). fitting_children (get_or digests j []) (get_or x.page_digests j None) ≡ Some pages) (sym c.self.view_is) (sym c.in-Some-pages_of_part.ensures) in
    let same : pages ≡ page_digests t.held j = c.in_err-page.ensures.none ∙ c.children-2.ensures in
    absurd (pages_differ t digests c.in-Some.is told.0 differ j first pages got same)

pub returns-clause-some : goal.returns-clause-some
returns-clause-some c =
    let t : TransferData = transfer_data c.self.inside in
    let differ : root_of t.held ≢ t.root = digests_differ c.eq.result c.root.result t.root (root_of t.held) c.eq.ensures c.if-eq.false c.root.ensures in
    let digests = c.in-Some.parts in
    let j = c.in_ok-part.part in
    let told = c.self.invariant.root digests c.in-Some.is in
    let first : IsFirstDifference digests (inner_digests t.held) j = subst (λ (held : List (List ℕ)). IsFirstDifference digests held j) c.children.ensures c.in_ok-part.ensures.some in
    let pages = c.in-Some-pages_of_part.pages.now in
    let r = c.in_ok-page.page in
    let got : fitting_children (get_or digests j []) (get_or t.page_digests j None) ≡ Some pages =
    subst (λ (x : TransferData). fitting_children (get_or digests j []) (get_or x.page_digests j None) ≡ Some pages) (sym c.self.view_is) (sym c.in-Some-pages_of_part.ensures) in
    let page : IsFirstDifference pages (page_digests t.held j) r = subst (λ (held : List (List ℕ)). IsFirstDifference pages held r) c.children-2.ensures c.in_ok-page.ensures.some in
    let whole = fitting_whole (get_or digests j []) t.page_digests j pages c.self.invariant.parts first.in_range c.self.invariant.told got in
    subst (λ (x : TransferData). IsFirstMissing x (record { place = c.page.result; digest = get_or pages r [] })) c.self.view_is
    (page_is_first t digests c.in-Some.is told.0 differ j first pages got c.page.result r whole c.self.invariant.pages page c.page.ensures)

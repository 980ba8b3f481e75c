use Rattle.std.proofs.Common.{◌≡◌, refl, sym, ap, subst, ◌∙◌}
use Rattle.std.specs.List.{range_with_len}
use Rattle.tuple_codec.specs.OperationView.{operation_of}
use Rattle.space.specs.Births.{oldest_births}
use Rattle.space.specs.Marking.{with_pages}
use Rattle.space.specs.Watching.{served_changes}
use Rattle.space.proofs.Taking.{one_oldest, none_oldest}
use Rattle.space.proofs.Touching.{refused_births, births_served}
use Rattle.space.proofs.tuples.Space.mark_changed.Goals as goal

pub returns-then-is_refused : goal.returns-then-is_refused
returns-then-is_refused g c =
    ap (with_pages c.args.pages.now) (refused_births c.args.self.now c.args.client (operation_of c.args.op.now) (sym c.is_refused.ensures ∙ c.if-is_refused.true))

pub returns-in-Some : goal.returns-in-Some
returns-in-Some g c =
    let s = c.args.self.now in
    let old = c.args.pages.now in
    c.add_page.ensures ∙ sym (ap (with_pages old) (one_oldest c.in-Inp.template s.entries _ c.in-Some.ensures.value))
    ∙ subst (λ op. with_pages old (oldest_births 1 c.in-Inp.template s.entries) ≡ with_pages old (served_changes s (operation_of op))) (sym c.in-Inp.is) refl
    ∙ ap (with_pages old) (births_served s c.args.client (operation_of c.args.op.now) (sym c.is_refused.ensures ∙ c.if-is_refused.false))

pub returns-in_default : goal.returns-in_default
returns-in_default g c =
    let s = c.args.self.now in
    let old = c.args.pages.now in
    sym (ap (with_pages old) (none_oldest c.in-Inp.template s.entries c.in_default.ensures.value))
    ∙ subst (λ op. with_pages old (oldest_births 1 c.in-Inp.template s.entries) ≡ with_pages old (served_changes s (operation_of op))) (sym c.in-Inp.is) refl
    ∙ ap (with_pages old) (births_served s c.args.client (operation_of c.args.op.now) (sym c.is_refused.ensures ∙ c.if-is_refused.false))

pub returns-in-InAll : goal.returns-in-InAll
returns-in-InAll g c =
    let s = c.args.self.now in
    let old = c.args.pages.now in
    c.add_pages.ensures ∙ ap (with_pages old) (c.as_slice.ensures.value ∙ c.oldest_births-births.ensures.value)
    ∙ subst (λ op. with_pages old (oldest_births c.in-InAll.max.count c.in-InAll.template s.entries) ≡ with_pages old (served_changes s (operation_of op))) (sym c.in-InAll.is) refl
    ∙ ap (with_pages old) (births_served s c.args.client (operation_of c.args.op.now) (sym c.is_refused.ensures ∙ c.if-is_refused.false))

pub returns-in-Upgrade : goal.returns-in-Upgrade
returns-in-Upgrade g c =
    let s = c.args.self.now in
    let old = c.args.pages.now in
    c.add_all_pages.ensures
    ∙ subst (λ op. with_pages old (range_with_len 0 256) ≡ with_pages old (served_changes s (operation_of op))) (sym c.in-Upgrade.is) refl
    ∙ ap (with_pages old) (births_served s c.args.client (operation_of c.args.op.now) (sym c.is_refused.ensures ∙ c.if-is_refused.false))

use Rattle.std.proofs.Common.{◌≡◌, ◌<◌, [], length, get_or, ap, sym, subst, ◌∙◌, arith}
use Rattle.std.proofs.lemmas.List.{get_or-map, length-map}
use Rattle.std.specs.Arc.{arc_value}
use Rattle.partition_tree.specs.Changes.{pages_with}
use Rattle.partition_tree.specs.Parts.{AreFull, pages_in, parts_held, part_digest}
use Rattle.partition_tree.proofs.Holding.{held_by_clones}
use Rattle.partition_tree.proofs.tree.Tree.set_pages.Goals as goal

pub change_all-requires-clause-full : goal.change_all-requires-clause-full
change_all-requires-clause-full c =
    subst AreFull (sym (held_by_clones arc_value c.self.inside.parts.items c.in_ok-parts.parts.items c.in_ok-parts.ensures.cases.0)) c.self.invariant.1

pub renew-requires-clause-whole : goal.renew-requires-clause-whole
renew-requires-clause-whole c =
    ap length c.self.invariant.2
    ∙ length-map (parts_held c.self.inside.parts.items) part_digest
    ∙ length-map c.self.inside.parts.items arc_value
    ∙ c.self.invariant.0

pub renew-requires-clause-known : goal.renew-requires-clause-known
renew-requires-clause-known c j h told =
    let same = held_by_clones arc_value c.self.inside.parts.items c.in_ok-parts.parts.items c.in_ok-parts.ensures.cases.0 in
    let owners = c.self.inside.parts.items in
    let all : length owners ≡ 32 = c.self.invariant.0 in
    let within : j < length (parts_held owners) = rw length-map (omega arith) in
    ap (λ ds. get_or ds j []) c.self.invariant.2
    ∙ get_or-map part_digest (parts_held owners) j [] [] within
    ∙ ap part_digest (sym (c.in_ok-changed.ensures.kept j h told ∙ ap (λ parts. get_or parts j []) same))
    ∙ ap (λ parts. part_digest (get_or (parts_held parts) j [])) (sym c.as_slice.ensures.value)

pub returns-clause-ok : goal.returns-clause-ok
returns-clause-ok c =
    let same = held_by_clones arc_value c.self.inside.parts.items c.in_ok-parts.parts.items c.in_ok-parts.ensures.cases.0 in
    c.in_ok-changed.ensures.pages ∙ ap (pages_with c.args.pages.items) (ap pages_in same ∙ c.self.view_is)

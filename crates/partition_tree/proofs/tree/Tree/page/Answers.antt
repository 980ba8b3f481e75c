use Rattle.std.proofs.Common.{◌*◌, ◌%◌, [], get_or, length, ap, sym, ◌∙◌}
use Rattle.std.proofs.lemmas.List.{length-map}
use Rattle.std.specs.Arc.{arc_value}
use Rattle.partition_tree.proofs.Parting.{length-pages_in}
use Rattle.partition_tree.proofs.Standing.{page_read}
use Rattle.partition_tree.proofs.tree.Tree.page.Goals as goal

pub returns-clause-text : goal.returns-clause-text
returns-clause-text c =
    c.page.ensures
    ∙ ap (λ part. get_or part (c.args.i % 32) []) c.deref.ensures
    ∙ page_read c.self.inside.parts.items c.args.i _ c.self.invariant.0 c.self.invariant.1 c.requires c.index.ensures
    ∙ ap (λ pages. get_or pages c.args.i []) c.self.view_is

pub returns-clause-count : goal.returns-clause-count
returns-clause-count c =
    sym (ap (λ pages. length pages) c.self.view_is)
    ∙ length-pages_in _ c.self.invariant.1
    ∙ ap (λ n. 32 * n) (length-map c.self.inside.parts.items arc_value ∙ c.self.invariant.0)

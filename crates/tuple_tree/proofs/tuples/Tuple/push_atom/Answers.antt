use Rattle.std.proofs.Common.{◌+◌, ◌++◌, ap, refl, ◌∙◌, arith}
use Rattle.std.proofs.lemmas.Result.{err_from_is_err_and}
use Rattle.tuple_tree.specs.Items.{leaf, with_last}
use Rattle.tuple_tree.specs.Seen.{seen_datum}
use Rattle.tuple_tree.specs.Spelling.{datum_spelling}
use Rattle.tuple_tree.specs.Flat.{IsFlatTuple}
use Rattle.tuple_tree.proofs.Growing.{refuses-with_last}
use Rattle.tuple_tree.proofs.Leaves.{datum_leaves}
use Rattle.tuple_tree.proofs.Flat.{items_are, closed, opened, holds, grown}
use Rattle.tuple_tree.proofs.tuples.Tuple.push_atom.Goals as goal

pub returns-in_err-extent-clause-refusal : goal.returns-in_err-extent-clause-refusal
returns-in_err-extent-clause-refusal g c =
    let h = holds (opened c.self.invariant c.self.view_is) in
    let p = err_from_is_err_and c.from_residual.result c.from_residual.ensures.1 in
    let e = c.in_err-extent.ensures {u = tt} in
    rw (p.1, p.2) (refuses-with_last c.in_err-extent.field-0.0 c.args.self.now (leaf (seen_datum c.args.atom)) _ _ _ c.self.inside.count _ _ h (omega arith) refl c.encoded_len-len.ensures e.within)

flat : (g : _) (c : goal.After-extent-2-1 g) → IsFlatTuple (c.self.inside.count + 1) c.put_atom.new.out.items c.in_ok-extent.extent (with_last c.args.self.now (leaf (seen_datum c.args.atom)))
flat g c =
    let e = c.in_ok-extent.ensures {u = tt} in
    grown datum_leaves c.self.inside.count c.self.inside.values.items c.put_atom.new.out.items c.self.inside.extent c.in_ok-extent.extent c.args.self.now (leaf (seen_datum c.args.atom)) _ _ _
    (opened c.self.invariant c.self.view_is) c.note_valid.ensures (c.put_atom.ensures.0 ∙ ap (λ xs. xs ++ datum_spelling (seen_datum c.args.atom)) e.kept) refl c.encoded_len-len.ensures c.is_wide.ensures e.within

pub invariant_of-self-2 : goal.invariant_of-self-2
invariant_of-self-2 g c = closed datum_leaves (flat g c)

pub returns-clause-ok : goal.returns-clause-ok
returns-clause-ok g c = items_are datum_leaves (flat g c)

pub returns-clause-refusal : goal.returns-clause-refusal
returns-clause-refusal g c = (closed datum_leaves (flat g c)).measured.0

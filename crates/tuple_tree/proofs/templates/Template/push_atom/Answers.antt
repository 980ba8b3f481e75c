use Rattle.std.proofs.Common.{◌+◌, ◌++◌, ap, refl, sym, ◌∙◌, arith}
use Rattle.std.proofs.lemmas.Result.{err_from_is_err_and}
use Rattle.tuple_tree.specs.Items.{leaf, with_last}
use Rattle.tuple_tree.specs.Seen.{seen_datum}
use Rattle.tuple_tree.specs.Values.{actual}
use Rattle.tuple_tree.specs.Spelling.{datum_spelling}
use Rattle.tuple_tree.specs.Flat.{IsFlatTemplate}
use Rattle.tuple_tree.proofs.Growing.{refuses-with_last}
use Rattle.tuple_tree.proofs.Leaves.{datum_leaves, slot_leaves}
use Rattle.tuple_tree.proofs.Flat.{items_are, closed, opened, holds, grown}
use Rattle.tuple_tree.proofs.Fixing.{front_grown, closed_template, fixed_of}
use Rattle.tuple_tree.proofs.templates.Template.push_atom.Goals as goal

pub returns-in_err-extent-clause-refusal : goal.returns-in_err-extent-clause-refusal
returns-in_err-extent-clause-refusal g c =
    let h = holds (opened c.self.invariant.0 c.self.view_is) in
    let p = err_from_is_err_and c.from_residual.result c.from_residual.ensures.1 in
    let e = c.in_err-extent.ensures {u = tt} in
    rw (p.1, p.2) (refuses-with_last c.in_err-extent.field-0.0 c.args.self.now (leaf (actual (seen_datum c.args.atom))) _ _ _ c.self.inside.count _ _ h (omega arith) refl c.encoded_len-len.ensures e.within)

flat : (g : _) (c : goal.After-extent-2-1 g) → IsFlatTemplate (c.self.inside.count + 1) c.put_atom.new.out.items c.in_ok-extent.extent c.longer_front-fixed.result (with_last c.args.self.now (leaf (actual (seen_datum c.args.atom))))
flat g c =
    let e = c.in_ok-extent.ensures {u = tt} in
    let h = opened c.self.invariant.0 c.self.view_is in (
      grown slot_leaves c.self.inside.count c.self.inside.fields.items c.put_atom.new.out.items c.self.inside.extent c.in_ok-extent.extent c.args.self.now (leaf (actual (seen_datum c.args.atom))) _ _ _
          h c.note_valid.ensures (c.put_atom.ensures.0 ∙ ap (λ xs. xs ++ datum_spelling (seen_datum c.args.atom)) e.kept) refl c.encoded_len-len.ensures c.is_wide.ensures e.within,
      front_grown c.args.self.now (leaf (actual (seen_datum c.args.atom))) c.self.inside.fixed c.self.inside.extent.encoded_len _ c.longer_front-fixed.result (fixed_of c.self.invariant c.self.view_is) h.measured.2
          (c.encoded_len-len.ensures ∙ sym (datum_leaves.lengths (seen_datum c.args.atom))) c.longer_front-fixed.ensures,
    )

pub invariant_of-self-2 : goal.invariant_of-self-2
invariant_of-self-2 g c = closed_template (flat g c)

pub returns-clause-ok : goal.returns-clause-ok
returns-clause-ok g c = items_are slot_leaves (flat g c).0

pub returns-clause-refusal : goal.returns-clause-refusal
returns-clause-refusal g c = (closed slot_leaves (flat g c).0).measured.0

use Rattle.std.proofs.Common.{◌≡◌, ◌+◌, ◌++◌, [], Option, Some, None, ap, refl, sym, ◌∙◌, arith}
use Rattle.std.proofs.lemmas.Result.{err_from_is_err_and}
use Rattle.tuple_tree.specs.Items.{leaf, with_last}
use Rattle.tuple_tree.specs.Seen.{open_slot}
use Rattle.tuple_tree.specs.Values.{slot_length, IsSlot}
use Rattle.tuple_tree.specs.Spelling.{slot_spelling}
use Rattle.tuple_tree.specs.Fronts.{slot_front}
use Rattle.tuple_tree.specs.Flat.{IsFlatTemplate}
use Rattle.tuple_tree.specs.declared.atoms.Kind.{Kind}
use Rattle.tuple_tree.proofs.Growing.{refuses-with_last}
use Rattle.tuple_tree.proofs.Leaves.{slot_leaves}
use Rattle.tuple_tree.proofs.Flat.{items_are, closed, opened, holds, grown}
use Rattle.tuple_tree.proofs.Fixing.{front_kept, closed_template, fixed_of}
use Rattle.tuple_tree.proofs.templates.Template.push_open.Goals as goal

valid : (k : Option Kind) → IsSlot (open_slot k)
valid None = tt
valid (Some k) = tt

one_byte : (k : Option Kind) → 1 ≡ slot_length (open_slot k)
one_byte None = refl
one_byte (Some k) = refl

no_front : (k : Option Kind) → slot_front (open_slot k) ≡ []
no_front None = refl
no_front (Some k) = refl

pub returns-in_err-extent-clause-refusal : goal.returns-in_err-extent-clause-refusal
returns-in_err-extent-clause-refusal g c =
    let h = holds (opened c.self.invariant.0 c.self.view_is) in
    let p = err_from_is_err_and c.from_residual.result c.from_residual.ensures.1 in
    let e = c.in_err-extent.ensures {u = tt} in
    rw (p.1, p.2) (refuses-with_last c.in_err-extent.field-0.0 c.args.self.now (leaf (open_slot c.args.kind)) _ _ _ c.self.inside.count _ _ h (omega arith) refl (one_byte c.args.kind) e.within)

flat : (g : _) (c : goal.After-extent-2-1 g) → IsFlatTemplate (c.self.inside.count + 1) c.push_reserved.new.self.items c.in_ok-extent.extent c.self.inside.fixed (with_last c.args.self.now (leaf (open_slot c.args.kind)))
flat g c =
    let e = c.in_ok-extent.ensures {u = tt} in
    let h = opened c.self.invariant.0 c.self.view_is in (
      grown slot_leaves c.self.inside.count c.self.inside.fields.items c.push_reserved.new.self.items c.self.inside.extent c.in_ok-extent.extent c.args.self.now (leaf (open_slot c.args.kind)) _ _ _
          h (valid c.args.kind) (c.push_reserved.ensures.items ∙ ap (λ xs. c.with_room.new.out.items ++ xs) (sym c.open_tag.ensures) ∙ ap (λ xs. xs ++ slot_spelling (open_slot c.args.kind)) e.kept)
          refl (one_byte c.args.kind) c.asks_for_wide.ensures e.within,
      front_kept c.args.self.now (leaf (open_slot c.args.kind)) c.self.inside.fixed (fixed_of c.self.invariant c.self.view_is) (no_front c.args.kind),
    )

pub invariant_of-self-2 : goal.invariant_of-self-2
invariant_of-self-2 g c = closed_template (flat g c)

pub returns-clause-ok : goal.returns-clause-ok
returns-clause-ok g c = items_are slot_leaves (flat g c).0

pub returns-clause-refusal : goal.returns-clause-refusal
returns-clause-refusal g c = (closed slot_leaves (flat g c).0).measured.0

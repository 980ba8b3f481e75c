use Rattle.std.proofs.Common.{◌<◌, ◌+◌, drop, length, refl, subst, sym, ap, ◌∙◌, arith}
use Rattle.std.proofs.lemmas.List.{length-drop}
use Rattle.std.specs.Prelude.{remove}
use Rattle.space.proofs.Ages.{drop-remove}
use Rattle.space.proofs.birth_list.BirthList.remove_at.Goals as goal

pub returns-then-place-as_slice : goal.returns-then-place-as_slice
returns-then-place-as_slice c =
    let xs = c.self.inside.births.items in
    let a = c.self.inside.taken in
    let p = c.args.place in
    let within = subst (λ s. p < length s.births) (sym c.self.view_is) c.requires in
    let l : a + p < length xs = omega (arith, length-drop a xs) in
    ap (drop a) c.remove.ensures.items ∙ drop-remove xs a p (a + p) refl l ∙ ap (λ s. remove s.births p) c.self.view_is

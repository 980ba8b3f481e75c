use Rattle.std.proofs.Common.{◌≡◌, ◌<◌, ◌+◌, ◌-◌, drop, length, subst, sym, ap, ◌∙◌, arith}
use Rattle.std.proofs.lemmas.List.{length-drop, length-take, with_items_is}
use borrow.Rule.Slice.PartMut.{put_mid, same_len_mid}
use Rattle.std.specs.Prelude.{remove}
use Rattle.space.proofs.Ages.{drop-rotated}
use Rattle.space.proofs.birth_list.BirthList.move_up.Goals as goal

pub returns : goal.returns
returns c =
    let xs = c.deref_mut.result.now in
    let ys = c.rotate_right.new.self in
    let a = c.self.inside.taken in
    let p = c.args.place in
    let k = a + p + 1 - a in
    let value : drop a xs ≡ c.args.self.now.births = ap (drop a) c.deref_mut.ensures.value ∙ ap (λ s. s.births) c.self.view_is in
    let within : p < length (drop a xs) = subst (λ s. p < length s) (sym value) c.requires in
    let l : a + p < length xs = omega (arith, length-drop a xs) in
    let part : length ys ≡ k = omega (arith, c.rotate_right.ensures.len, length-take k (drop a xs), length-drop a xs) in
    let long : length (put_mid a k xs ys) ≡ length xs = same_len_mid a k xs ys (omega (arith, part, length-take k (drop a xs), length-drop a xs)) in
    ap (drop (a + 1)) (with_items_is c.self.inside.births _ (long ∙ c.deref_mut.ensures.len))
    ∙ drop-rotated xs ys a p k (omega arith) l c.rotate_right.ensures.after ∙ ap (λ s. remove s p) value

use Rattle.std.proofs.Common.{rules, ◌≡◌, ◌∙◌, ◌+◌, ap, subst, sym}
use Rattle.std.specs.Prelude.{Some, slice_get}
use Rattle.std.specs.List.{remove}
use Rattle.std.proofs.lemmas.Option.{get_or_from_slice_get}
use Rattle.space_node.specs.Places.{HandleAt, PartyTakesHandle, parties_of}
use Rattle.space_node.proofs.Handing.{handed}
use Rattle.space_node.proofs.cluster.Cluster.client.Goals as goal

pub returns : goal.returns
returns g c =
    let p = 256 + c.args.number in
    let handles = c.self.inside.handles.items in
    let at = c.in_ok-at.at in
    let there : HandleAt handles p at = search rules in
    let is : slice_get handles at ≡ Some c.remove.result =
    there.1 ∙ ap Some (sym (c.remove.ensures.value ∙ get_or_from_slice_get handles at there.0 c.remove.result there.1)) in
    let h = handed handles at p c.remove.result c.self.inside.are_new there is in
    let left : remove handles at ≡ c.remove.new.self.items = search rules in
    let old : parties_of handles ≡ c.args.self.now = search rules in
    (h.0, subst (λ ps. PartyTakesHandle ps p (parties_of c.remove.new.self.items)) old (subst (λ hs. PartyTakesHandle (parties_of handles) p (parties_of hs)) left h.1))

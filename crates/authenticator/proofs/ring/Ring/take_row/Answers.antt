use Rattle.std.proofs.Common.{◌≡◌, ◌∙◌, None, Some, ap, sym, subst}
use Rattle.std.specs.Arc.{arc_value}
use Rattle.std.specs.Option.{IfSome}
use Rattle.authenticator.specs.Kept.{CodesFit, KeysFit}
use Rattle.authenticator.specs.Keys.{Keys, row}
use Rattle.authenticator.specs.RingView.{keys_dealt, keys_of}
use Rattle.authenticator.proofs.ring.Ring.take_row.Goals.{in-Dealt, in_default}
use Rattle.authenticator.proofs.ring.Ring.take_row.Goals as goal

-- the row is the one that the keys were dealt as, so what was kept fits it
pub invariant_of-self-in-Ok-2 : goal.invariant_of-self-in-Ok-2
invariant_of-self-in-Ok-2 c = elim c.match-self.branch [
  | in-Dealt w ↦
      let was = c.self.inside in
      let keys = (arc_value c.in-Ok.row).items in
      let dealt : keys ≡ keys_dealt w.in-Dealt.keys =
      ap (λ v. v.items) c.in-Ok.ensures.ok
      ∙ subst (λ row. IfSome row (λ it. it.items ≡ keys_dealt w.in-Dealt.keys)) (sym w.dealt-is ∙ c.in-Some.is) w.row-dealt.ensures in
      let same : keys_of was.source ≡ row keys = ap keys_of w.in-Dealt.is ∙ ap row (sym dealt) in
      let fits : KeysFit (row keys) was.kept × CodesFit (row keys) was.requests =
      subst (λ (k : Keys). KeysFit k was.kept × CodesFit k was.requests) same c.self.invariant in
      rw w.self-inside-is fits
  | in_default w ↦
      let none : None ≡ Some c.in-Some.keys = sym w.dealt-is ∙ c.in-Some.is in
      absurd cc
]

-- A history leaves a replica at one point at most.
use Rattle.std.proofs.Common.{◌≡◌, ℕ, List, [], ◌∷◌, refl, sym, ap, ◌∙◌, subst}
use Rattle.protocol.specs.System.Configuration.{Configuration}
use Rattle.protocol.specs.System.Trace.{Entry}
use Rattle.protocol.specs.System.Trace.Entry.{Installed}
use Rattle.protocol.specs.Replica.State.{State, Call, Ran}
use Rattle.protocol.specs.Replica.RightReplica.{Point, MovesPoint, IsInstalled, still_waiting}
use Rattle.protocol.specs.Laws.Histories.{PointsAreOne}
use Rattle.protocol.proofs.Words.Paging.{pages_determine}

one_point : (s s' : State) (xs xs' : List State) (r r' : List Ran) (w w' : List Call) → s ≡ s' → xs ≡ xs' → r ≡ r' → w ≡ w'
    → ◌≡◌ {A = Point} (record { state = s; snapshots = xs; ran = r; waiting = w }) (record { state = s'; snapshots = xs'; ran = r'; waiting = w' })
one_point s s' xs xs' r r' w w' a b d e = rw (a, b, d, e) refl

one_installed : (c : Configuration) (me k : ℕ) (root : List ℕ) (past : List Entry) (old x y : Point) → IsInstalled c me past old k root x → IsInstalled c me past old k root y → x ≡ y
one_installed c me k root past old x y m n =
    one_point x.state y.state x.snapshots y.snapshots x.ran y.ran x.waiting y.waiting state
    (m.snapshots ∙ ap (λ (st : State). st ∷ old.snapshots) state ∙ sym n.snapshots) (m.ran ∙ sym n.ran)
    (m.waiting ∙ ap (λ (st : State). still_waiting st old.waiting) state ∙ sym n.waiting)
  where
    state : x.state ≡ y.state
    state = pages_determine x.state y.state m.is_state n.is_state (λ i l. m.pages i l ∙ sym (n.pages i l))

one_move : (c : Configuration) (me : ℕ) (past : List Entry) (old : Point) (e : Entry) (x y : Point) → MovesPoint c me past old e x → MovesPoint c me past old e y → x ≡ y
one_move c me past old (Installed r k root) x y m n = one_installed c me k root past old x y m n
one_move c me past old _ x y m n = m ∙ sym n

pub points_are_one : PointsAreOne
points_are_one c me [] x y h k = h ∙ sym k
points_are_one c me (e ∷ past) x y h k =
    let same : h.0 ≡ k.0 = points_are_one c me past h.0 k.0 h.1 k.1 in
    one_move c me past k.0 e x y (subst (λ (old : Point). MovesPoint c me past old e x) same h.2.moves) k.2.moves

-- The definitions refuse view changes that have no reason.
use Rattle.std.proofs.Common.{◌≡◌, ◌≢◌, ℕ, suc, ◌+◌, ◌<◌, ◌⊎◌, inl, inr, true, cond, not, ◌&&◌, max, List, [], ◌∷◌, Option, Some, refl, sym, ap, ◌∙◌, subst, arith}
use Rattle.std.specs.Prelude.{◌==◌, nat_lt}
use Rattle.std.specs.Option.{option_map_or}
use Rattle.std.proofs.lemmas.Bool.{and_parts, leb-true, ltb-true, lt-ltb, ne_eqb}
use Rattle.quorum.specs.Quorum.{count_below}
use Rattle.protocol.specs.System.Configuration.{Configuration, replicas}
use Rattle.wire_format.specs.Messages.{ViewChangeData}
use Rattle.protocol.specs.System.Trace.{Entry}
use Rattle.protocol.specs.System.Trace.Entry.{Got, Tick}
use Rattle.protocol.specs.Replica.Selection.{is_within}
use Rattle.protocol.specs.Replica.Certificates.{view, target, latest_change}
use Rattle.protocol.specs.Replica.State.{Call}
use Rattle.protocol.specs.Replica.RightReplica.{Point, HistoryReaches, TimesOut, JoinsOthers, sought_view, is_ahead}
use Rattle.evidence.specs.RefusedChanges.{NoChangeAtFirst, NoChangeAtFrame, ChangesJoinEnough, ChangesJoinLeast, TicksMoveByOne}
use Rattle.evidence.proofs.RefusingChanges.{new_change}
use Rattle.protocol.proofs.Words.Options.{some_injective}

-- ---- the input of the event

abbrev Input : Type 0
Input = Entry × List Entry

-- a received frame is not a tick
no_tick : (me : ℕ) (frame : List ℕ) (past before : List Entry) → ◌≡◌ {A = Option Input} (Some (Got me frame, past)) (Some (Tick me, before)) → ⊥
no_tick me frame past before is = let same : Got me frame ≡ Tick me = ap (λ (p : Input). p.0) (some_injective _ _ is) in cc

-- so the replica joins others
joins : (c : Configuration) (me v : ℕ) (frame : List ℕ) (past : List Entry) (waiting : List Call) → TimesOut c me (Got me frame ∷ past) waiting v ⊎ JoinsOthers c me (Got me frame ∷ past) v → JoinsOthers c me (Got me frame ∷ past) v
joins c me v frame past waiting (inl t) = absurd (no_tick me frame past t.before t.tick)
joins c me v frame past waiting (inr j) = j

-- a replica is not ahead if none of its view changes is known
none_ahead : (c : Configuration) (me s : ℕ) (past : List Entry) → latest_change c past s ≡ 0 → is_ahead c me past s ≡ true → ⊥
none_ahead c me s past none is =
    let p = and_parts (not (s == me)) (nat_lt (sought_view c past) (latest_change c past s)) is in
    let above = ltb-true (sought_view c past) (latest_change c past s) p.1 in
    absurd (omega arith)

-- ---- view changes without a reason

nothing_waits : (c : Configuration) (me : ℕ) (point : Point) → HistoryReaches c me (Tick me ∷ []) point → point.waiting ≡ []
nothing_waits c me point (old, first, step) = ap (λ (p : Point). p.waiting) step.moves ∙ ap (λ (p : Point). p.waiting) first

pub no_change_at_first : NoChangeAtFirst
no_change_at_first c me vc bytes sends = go (new_change c me vc bytes (Tick me ∷ []) sends).reason
  where
    below : (before : List Entry) → [] ≡ before → view c before < target before → ⊥
    below before is less = let first : view c [] < 0 = subst (λ (xs : List Entry). view c xs < target xs) (sym is) less in absurd (omega arith)

    go : TimesOut c me (Tick me ∷ []) sends.is_safe.1.0.waiting vc.view ⊎ JoinsOthers c me (Tick me ∷ []) vc.view → ⊥
    go (inl t) = waits t.waits
      where
        waits : (sends.is_safe.1.0.waiting ≢ []) ⊎ (view c t.before < target t.before) → ⊥
        waits (inl some) = some (nothing_waits c me sends.is_safe.1.0 sends.is_safe.1.1)
        waits (inr less) = below t.before (ap (λ (p : Input). p.1) (some_injective _ _ t.tick)) less
    go (inr j) = none_ahead c me j.of_one.0 (Tick me ∷ []) refl j.of_one.2

pub no_change_at_frame : NoChangeAtFrame
no_change_at_frame c me vc bytes frame none sends =
    let j = joins c me vc.view frame [] sends.is_safe.1.0.waiting (new_change c me vc bytes (Got me frame ∷ []) sends).reason in
    none_ahead c me j.of_one.0 (Got me frame ∷ [])
    (ap (λ (o : Option (ℕ × ViewChangeData)). max 0 (option_map_or (λ (x : ℕ × ViewChangeData). cond ((x.0 == j.of_one.0) && nat_lt (view c []) x.1.view && is_within c x.1) x.1.view 0) o 0)) none) j.of_one.2

pub changes_join_enough : ChangesJoinEnough
changes_join_enough c me vc bytes frame past sends =
    let j = joins c me vc.view frame past sends.is_safe.1.0.waiting (new_change c me vc bytes (Got me frame ∷ past) sends).reason in
    let enough = leb-true (c.faults + 1) (count_below (is_ahead c me (Got me frame ∷ past)) (replicas c)) j.enough in
    omega arith

pub changes_join_least : ChangesJoinLeast
changes_join_least c me s vc bytes frame past sends within other above =
    let j = joins c me vc.view frame past sends.is_safe.1.0.waiting (new_change c me vc bytes (Got me frame ∷ past) sends).reason in
    j.least s within (rw (ne_eqb s me other, lt-ltb (sought_view c (Got me frame ∷ past)) (latest_change c (Got me frame ∷ past) s) above) refl)

pub ticks_move_by_one : TicksMoveByOne
ticks_move_by_one c me vc bytes past sends few = go (new_change c me vc bytes (Tick me ∷ past) sends).reason
  where
    go : TimesOut c me (Tick me ∷ past) sends.is_safe.1.0.waiting vc.view ⊎ JoinsOthers c me (Tick me ∷ past) vc.view → vc.view ≡ suc (max (view c past) (target past))
    go (inl t) = t.next ∙ ap (λ (xs : List Entry). suc (sought_view c xs)) (sym (ap (λ (p : Input). p.1) (some_injective _ _ t.tick)))
    go (inr j) =
        let enough = leb-true (c.faults + 1) (count_below (is_ahead c me (Tick me ∷ past)) (replicas c)) j.enough in
        absurd (omega (arith, few))

use Rattle.std.proofs.Common.{◌≡◌, ℕ, ◌≤◌, ◌+◌, List, [], ◌∷◌, reverse, take, length, refl, sym, ap, ◌∙◌, subst, arith, Vec, Global}
use Rattle.std.specs.List.Sorted.{IsNonDecreasingBy}
use Rattle.std.proofs.lemmas.List.Sorted.{IsNonDecreasingBy-short}
use Rattle.wire_format.specs.Lists.{Each}
use Rattle.points.proofs.Noting.{rising_on}
use Rattle.protocol.specs.System.Trace.{Entry}
use Rattle.protocol.specs.System.Configuration.{IsConfiguration}
use Rattle.points.specs.declared.levels.Rise.{Rise}
use Rattle.points.specs.Leveling.{level, rises}
use Rattle.points.proofs.Rising.{AreReached, first_level, all_zero, one_more_entry, length_taken, rises_on, stays_on, level_known, still_reached}
use Rattle.points.proofs.levels.find_rises.Goals as goal
use Rattle.points.proofs.levels.find_rises.Goals.{then-level-now+in_ok-push, else-level-now}

pub loop-position-init : goal.loop-position-init
loop-position-init c = (λ r l. all_zero (0 ∷ 0 ∷ 0 ∷ 0 ∷ 0 ∷ 0 ∷ 0 ∷ 0 ∷ 0 ∷ 0 ∷ []) refl r, first_level c.args.config.now, ap reverse c.new-found.ensures.items, subst (IsNonDecreasingBy (λ (x : Rise). x.level)) (sym c.new-found.ensures.items) (IsNonDecreasingBy-short (λ (x : Rise). x.level) [] (omega arith)), subst (Each (λ (x : Rise). x.level ≤ 0)) (sym c.new-found.ensures.items) tt)

pub level_behind-now-requires-clause-level : goal.level_behind-now-requires-clause-level
level_behind-now-requires-clause-level c =
    c.loop-position.invariant.1
    ∙ sym (level_known c.args.config.now c.count_correct-correct.ensures.valid.most (reverse (take c.loop-position.position c.args.trace.now)) c.loop-position.reached c.loop-position.invariant.0)

pub loop-position-preserved : goal.loop-position-preserved
loop-position-preserved c =
    let e : Entry = c.index-trace-position.result in
    let past : List Entry = reverse (take c.loop-position.position c.args.trace.now) in
    let valid : IsConfiguration c.args.config.now = c.count_correct-correct.ensures.valid in
    let more : reverse (take (c.loop-position.position + 1) c.args.trace.now) ≡ e ∷ past = one_more_entry c.args.trace.now c.loop-position.position e c.loop-position-test.true (sym c.index-trace-position.is) in
    let known : AreReached (e ∷ past) c.level_behind-now.new.reached = still_reached e past c.loop-position.reached c.level_behind-now.new.reached c.loop-position.invariant.0 c.level_behind-now.ensures.raises in
    let now : c.level_behind-now.result ≡ level c.args.config.now (e ∷ past) = c.level_behind-now.ensures.level ∙ level_known c.args.config.now valid.most (e ∷ past) c.level_behind-now.new.reached known in
    let long : c.loop-position.position ≡ length past = length_taken c.args.trace.now c.loop-position.position c.loop-position-test.true in
    let back = subst (λ (xs : List Entry). AreReached xs c.level_behind-now.new.reached × (c.if-level-now.level ≡ level c.args.config.now xs) × (reverse c.if-level-now.found.items ≡ rises c.args.config.now xs)) (sym more) in
    elim c.if-level-now.branch [
      | then-level-now+in_ok-push w ↦
          let on = rises_on c.args.config.now past e c.loop-position.position c.loop-position.level c.level_behind-now.result c.loop-position.found.items long c.loop-position.invariant.1 now c.loop-position.invariant.2 w.if-level-now.true in
          let pushed = w.in_ok-push.ensures.items in
          let up = rising_on c.loop-position.found.items c.loop-position.level c.level_behind-now.result c.loop-position.position c.loop-position.invariant.3 c.loop-position.invariant.4 w.if-level-now.true in
          let is = ap (λ (v : Vec Rise Global). v.items) w.found-is ∙ pushed in
          let b = back (known, w.level-is ∙ now, ap (λ (v : Vec Rise Global). reverse v.items) w.found-is ∙ ap reverse pushed ∙ on) in (
            b.0,
            b.1,
            b.2,
            subst (IsNonDecreasingBy (λ (x : Rise). x.level)) (sym is) up.0,
            subst (λ (n : ℕ). Each (λ (x : Rise). x.level ≤ n) c.if-level-now.found.items) (sym w.level-is) (subst (Each (λ (x : Rise). x.level ≤ c.level_behind-now.result)) (sym is) up.1),
          )
      | else-level-now w ↦
          let on = stays_on c.args.config.now valid past e c.loop-position.level c.level_behind-now.result c.loop-position.found.items c.loop-position.invariant.1 now c.loop-position.invariant.2 (omega arith) in
          let is = ap (λ (v : Vec Rise Global). v.items) w.found-is in
          let b = back (known, w.level-is ∙ on.0, ap (λ (v : Vec Rise Global). reverse v.items) w.found-is ∙ on.1) in (
            b.0,
            b.1,
            b.2,
            subst (IsNonDecreasingBy (λ (x : Rise). x.level)) (sym is) c.loop-position.invariant.3,
            subst (λ (n : ℕ). Each (λ (x : Rise). x.level ≤ n) c.if-level-now.found.items) (sym w.level-is) (subst (Each (λ (x : Rise). x.level ≤ c.loop-position.level)) (sym is) c.loop-position.invariant.4),
          )
    ]

use Rattle.std.proofs.Common.{◌≡◌, ◌++◌, ◌-◌, [], ◌∷◌, length, map, take, get_or, ap, sym, ◌∙◌, arith}
use Rattle.std.specs.Prelude.{filter}
use Rattle.std.proofs.lemmas.List.{length_push, get_or_default}
use Rattle.template_match.specs.Tests.{is_match}
use Rattle.space.specs.Found.{entries_at}
use Rattle.space.proofs.Among.{copied_here, copied_next, copied_some}
use Rattle.space.proofs.Finding.{on_err}
use Rattle.space.proofs.matching.copies_of_matches.Goals as goal
use Rattle.space.proofs.matching.copies_of_matches.Goals.{in-Some+in_ok-copy+in_ok-push, in_default}

pub loop-birth-preserved : goal.loop-birth-preserved
loop-birth-preserved g c =
    let p = c.args.template.now in
    let es = c.args.tuples.now.entries in
    let births = c.args.births.now in
    let i = c.loop-birth.birth-index in
    let b = get_or births i 0 in
    let is = get_or_default births i 0 b c.loop-birth-test.true in
    let n = c.args.max.count in
    let ys = c.loop-birth.copies in
    elim c.match-match_at.branch [
      | in-Some+in_ok-copy+in_ok-push w ↦
          let t = w.in-Some.tuple.now in
          let pushed : w.push.new.self ≡ ys ++ t ∷ [] = (w.in_ok-push.ensures {u = tt}).ok ∙ ap (λ x. ys ++ x ∷ []) (w.in_ok-copy.ensures {u = tt}) in
          let e : c.match-match_at.copies ≡ ys ++ t ∷ [] = w.copies-is ∙ pushed in
          rw e (record {
            few = omega (arith, length_push ys t);
            limit = c.loop-birth.invariant.limit;
            same = sym (copied_here es births i b c.loop-birth-test.true is p t n ys w.in-Some.ensures (omega arith)) ∙ c.loop-birth.invariant.same;
          })
      | in_default w ↦
          rw w.copies-is (record {
            few = c.loop-birth.invariant.few;
            limit = c.loop-birth.invariant.limit;
            same = ap (λ zs. ys ++ take (n - length ys) zs) (sym (copied_next es births i b c.loop-birth-test.true is p w.in_default.ensures)) ∙ c.loop-birth.invariant.same;
          })
    ]

pub returns-in_err-copy-clause-memory : goal.returns-in_err-copy-clause-memory
returns-in_err-copy-clause-memory g c =
    let p = c.args.template.now in
    let es = c.args.tuples.now.entries in
    let births = c.args.births.now in
    let i = c.loop-birth.birth-index in
    let b = get_or births i 0 in
    let is = get_or_default births i 0 b c.loop-birth-test.true in
    let n = c.args.max.count in
    let ys = c.loop-birth.copies in
    let t = c.in-Some.tuple.now in
    on_err c.from_residual.result
    (copied_some n (filter (is_match p) (map (λ e. e.1) (entries_at es births))) ys _ t
    (sym (copied_here es births i b c.loop-birth-test.true is p t n ys c.in-Some.ensures (omega arith)) ∙ c.loop-birth.invariant.same))

pub returns-in_err-push-clause-memory : goal.returns-in_err-push-clause-memory
returns-in_err-push-clause-memory g c =
    let p = c.args.template.now in
    let es = c.args.tuples.now.entries in
    let births = c.args.births.now in
    let i = c.loop-birth.birth-index in
    let b = get_or births i 0 in
    let is = get_or_default births i 0 b c.loop-birth-test.true in
    let n = c.args.max.count in
    let ys = c.loop-birth.copies in
    let t = c.in-Some.tuple.now in
    on_err c.from_residual-in_err-push.result
    (copied_some n (filter (is_match p) (map (λ e. e.1) (entries_at es births))) ys _ t
    (sym (copied_here es births i b c.loop-birth-test.true is p t n ys c.in-Some.ensures (omega arith)) ∙ c.loop-birth.invariant.same))

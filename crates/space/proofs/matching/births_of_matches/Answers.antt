use Rattle.std.proofs.Common.{◌≡◌, ◌++◌, ◌-◌, [], ◌∷◌, length, take, get_or, ap, sym, ◌∙◌, arith}
use Rattle.std.proofs.lemmas.List.{length_push, get_or_default}
use Rattle.template_match.specs.Tests.{is_match}
use Rattle.space.proofs.Among.{births_here, births_next}
use Rattle.space.proofs.matching.births_of_matches.Goals as goal
use Rattle.space.proofs.matching.births_of_matches.Goals.{in-Some, in_default}

pub loop-birth-preserved : goal.loop-birth-preserved
loop-birth-preserved g c =
    let p = c.args.template.now in
    let es = c.args.tuples.now.entries in
    let births = c.args.births.now in
    let i = c.loop-birth.birth-index in
    let b = get_or births i 0 in
    let is = get_or_default births i 0 b c.loop-birth-test.true in
    let n = c.args.max.count in
    let ys = c.loop-birth.matched.items in
    elim c.match-match_at.branch [
      | in-Some w ↦
          let pushed : w.push.new.self.items ≡ ys ++ b ∷ [] = w.push.ensures.items in
          let e : c.match-match_at.matched.items ≡ ys ++ b ∷ [] = ap (λ m. m.items) w.matched-is ∙ pushed in
          rw e (record {
            few = omega (arith, length_push ys b);
            limit = c.loop-birth.invariant.limit;
            same = sym (births_here es births i b c.loop-birth-test.true is (λ e. is_match p e.1) (b, w.in-Some._tuple.now) n ys w.in-Some.ensures (omega arith)) ∙ c.loop-birth.invariant.same;
          })
      | in_default w ↦
          rw w.matched-is (record {
            few = c.loop-birth.invariant.few;
            limit = c.loop-birth.invariant.limit;
            same = ap (λ zs. ys ++ take (n - length ys) zs) (sym (births_next es births i b c.loop-birth-test.true is (λ e. is_match p e.1) w.in_default.ensures)) ∙ c.loop-birth.invariant.same;
          })
    ]

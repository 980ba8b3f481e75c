use Rattle.std.proofs.Common.{◌≡◌, ◌+◌, ◌++◌, ◌-◌, [], ◌∷◌, List, length, map, take, drop, get_or, Bor, ap, sym, ◌∙◌}
use Rattle.std.proofs.Common.{arith}
use Rattle.std.specs.Prelude.{filter}
use Rattle.std.proofs.lemmas.List.{length_push, length-map, map-append, get_or_default}
use Rattle.tuple_tree.specs.Values.{TupleTree}
use Rattle.template_match.specs.Tests.{is_match}
use Rattle.space.specs.Found.{entries_at, lent_tuples}
use Rattle.space.proofs.Among.{copied_here, copied_next}
use Rattle.space.proofs.matching.seen_matches.Goals as goal
use Rattle.space.proofs.matching.seen_matches.Goals.{in-Some+in_ok-reserve, in_default}

pub loop-birth-preserved : goal.loop-birth-preserved
loop-birth-preserved g c =
    let p = c.args.template.now in
    let es = c.args.tuples.now.entries in
    let births = c.args.births.now in
    let i = c.loop-birth.birth-index in
    let b = get_or births i 0 in
    let is = get_or_default births i 0 b c.loop-birth-test.true in
    let n = c.args.max.count in
    let us : List (Bor TupleTree) = c.loop-birth.seen.items in
    let ys : List TupleTree = lent_tuples us in
    let count : length ys ≡ length us = length-map us (λ (x : Bor TupleTree). x.now) in
    let here : List TupleTree = filter (is_match p) (map (λ e. e.1) (entries_at es (drop i births))) in
    let next : List TupleTree = filter (is_match p) (map (λ e. e.1) (entries_at es (drop (i + 1) births))) in
    elim c.match-match_at.branch [
      | in-Some+in_ok-reserve w ↦
          let t : Bor TupleTree = w.in-Some.tuple in
          let pushed : c.match-match_at.seen.items ≡ us ++ t ∷ [] =
          ap (λ v. v.items) w.seen-is ∙ w.push_reserved.ensures.items ∙ ap (λ xs. xs ++ t ∷ []) w.reserve.ensures.items in
          let lent : lent_tuples (us ++ t ∷ []) ≡ ys ++ t.now ∷ [] = map-append (λ (x : Bor TupleTree). x.now) us (t ∷ []) in
          let long : length (us ++ t ∷ []) ≡ length (ys ++ t.now ∷ []) = omega (arith, length_push us t, length_push ys t.now, count) in
          rw pushed (record {
            few = omega (arith, length_push us t);
            limit = c.loop-birth.invariant.limit;
            same = ap (λ zs. zs ++ take (n - length (us ++ t ∷ [])) next) lent ∙ ap (λ k. (ys ++ t.now ∷ []) ++ take (n - k) next) long
                ∙ sym (copied_here es births i b c.loop-birth-test.true is p t.now n ys w.in-Some.ensures (omega (arith, count)))
                ∙ ap (λ k. ys ++ take (n - k) here) count ∙ c.loop-birth.invariant.same;
          })
      | in_default w ↦
          rw (ap (λ v. v.items) w.seen-is) (record {
            few = c.loop-birth.invariant.few;
            limit = c.loop-birth.invariant.limit;
            same = ap (λ zs. ys ++ take (n - length us) zs) (sym (copied_next es births i b c.loop-birth-test.true is p w.in_default.ensures)) ∙ c.loop-birth.invariant.same;
          })
    ]

use Rattle.std.proofs.Common.{[], ◌∷◌, map, sym, subst}
use Rattle.std.specs.Map.Iter.{deref_pair}
use Rattle.std.proofs.lemmas.List.{map-append}
use Rattle.std.proofs.lemmas.Map.Iter.{iter_end}
use Rattle.space.specs.Filing.{IsIndexOf}
use Rattle.space.proofs.index.Index.of.Goals as goal

pub loop-birth-preserved : goal.loop-birth-preserved
loop-birth-preserved c =
    subst (IsIndexOf c.insert.new.self) (sym (map-append deref_pair c.loop-birth.yielded ((c.in-Some.birth, c.in-Some.tuple) ∷ [])))
    ((c.in_ok-insert.ensures {u = tt}).ok (map deref_pair c.loop-birth.yielded) c.loop-birth.invariant)

pub returns : goal.returns
returns c =
    let e = (iter_end deref_pair c.args.tuples.now.entries c.loop-birth.yielded c.into_iter-birth-iterator.result c.loop-birth.birth-iterator c.next.new.self c.next.result
    c.into_iter-birth-iterator.ensures.into_iter_gives.0 c.loop-birth.yielded_by c.in-None.is c.next.ensures.steps).0 in
    subst (IsIndexOf c.loop-birth.index) e c.loop-birth.invariant

use Rattle.std.proofs.Common.{◌++◌, [], ◌∷◌, cond, ap, ◌∙◌}
use Rattle.std.specs.Prelude.{◌==◌}
use Rattle.space.specs.Births.{BornTuple}
use Rattle.space.specs.Filing.{births_at, births_in, page_number, value_count, first_key}
use Rattle.space.proofs.Filing.{IsFiled-push}
use Rattle.space.proofs.index.Index.insert.Goals as goal

pub returns-clause-ok : goal.returns-clause-ok
returns-clause-ok g c es h =
    let old = c.args.self.now in
    let e : BornTuple = (c.args.birth, c.args.tuple.now) in
    record {
      pages =
          IsFiled-push page_number (births_in old.pages) es h.pages (births_in c.add-2.new.self) e c.page_of-2.result c.page_of-2.ensures
          (λ n. c.add-2.ensures n ∙ ap (λ xs. xs ++ cond (c.page_of-2.result == n) (e.0 ∷ []) []) (c.reserve.ensures.births n));
      lengths =
          IsFiled-push value_count (births_in old.lengths) es h.lengths (births_in c.add-3.new.self) e c.len-2.result c.len-2.ensures.value
          (λ n. c.add-3.ensures n ∙ ap (λ xs. xs ++ cond (c.len-2.result == n) (e.0 ∷ []) []) (c.reserve-2.ensures.births n));
      firsts = IsFiled-push first_key (births_at old.firsts) es h.firsts (births_at c.add.new.self) e c.tuple_key.result c.tuple_key.ensures (c.in_ok-add.ensures {u = tt}).ok;
    }

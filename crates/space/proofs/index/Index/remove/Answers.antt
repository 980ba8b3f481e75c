use Rattle.space.specs.Births.{BornTuple}
use Rattle.space.specs.Filing.{births_at, births_in, page_number, value_count, first_key}
use Rattle.space.proofs.Filing.{IsFiled-remove}
use Rattle.space.proofs.index.Index.remove.Goals as goal

pub returns : goal.returns
returns g c es i rising within here h =
    let old = c.args.self.now in
    let e : BornTuple = (c.args.birth, c.args.tuple.now) in
    record {
      pages = IsFiled-remove page_number (births_in old.pages) es h.pages (births_in c.remove.new.self) i e c.page_of.result c.page_of.ensures rising within here c.remove.ensures;
      lengths = IsFiled-remove value_count (births_in old.lengths) es h.lengths (births_in c.remove-2.new.self) i e c.len.result c.len.ensures.value rising within here c.remove-2.ensures;
      firsts = IsFiled-remove first_key (births_at old.firsts) es h.firsts (births_at c.remove-3.new.self) i e c.tuple_key.result c.tuple_key.ensures rising within here c.remove-3.ensures.taken;
    }

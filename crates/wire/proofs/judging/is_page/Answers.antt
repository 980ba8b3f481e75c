use Rattle.std.proofs.Common.{◌∙◌, ap}
use lib.Dec.{leb}
use Rattle.wire.proofs.InPlace.{page_uncounted, page_unplaced, page_whole}
use Rattle.wire.proofs.judging.is_page.Goals as goal

pub returns-in_default : goal.returns-in_default
returns-in_default c = page_uncounted c.args.fields.now c.in_default.ensures

pub returns-in-Some-read_u16 : goal.returns-in-Some-read_u16
returns-in-Some-read_u16 c =
    ap (leb c.in-Some-read_u16.index) c.last_index.ensures ∙ page_whole c.args.fields.now c.in-Some.rest.now _ c.in-Some-read_u16.index _ c.in-Some.ensures c.in-Some-read_u16.ensures

pub returns-in-None : goal.returns-in-None
returns-in-None c = page_unplaced c.args.fields.now c.in-Some.rest.now _ c.in-Some.ensures c.in-None.ensures

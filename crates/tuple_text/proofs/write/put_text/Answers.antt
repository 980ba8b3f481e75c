use Rattle.std.proofs.Common.{◌∙◌, ap, sym, arith}
use Rattle.std.specs.List.{flat_map}
use Rattle.std.proofs.lemmas.List.{take_all}
use Rattle.tuple_text.specs.Texts.{escaped}
use Rattle.tuple_text.proofs.Writing.{plain_run}
use Rattle.tuple_text.proofs.write.put_text.Goals as goal

pub put_plain-requires : goal.put_plain-requires
put_plain-requires g c =
    let text = c.args.text.now in
    let all = take_all c.plain_len.result text (omega arith) in
    ap (flat_map escaped) (sym all) ∙ plain_run text c.plain_len.result c.plain_len.ensures.within c.plain_len.ensures.plain ∙ all

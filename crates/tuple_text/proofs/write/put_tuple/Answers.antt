use Rattle.std.proofs.Common.{◌∙◌, ◌++◌, ap}
use Rattle.tuple_text.proofs.FieldTexts.{tuple_read}
use Rattle.tuple_text.proofs.write.put_tuple.Goals as goal

pub put_list-requires : goal.put_list-requires
put_list-requires g c = (tuple_read c.args.tuple.now c.len.result c.bytes.result.now c.bytes.ensures.valid c.len.ensures.value c.bytes.ensures.value).there

pub returns : goal.returns
returns g c =
    let w = tuple_read c.args.tuple.now c.len.result c.bytes.result.now c.bytes.ensures.valid c.len.ensures.value c.bytes.ensures.value in
    (c.in_ok-_rest.ensures {u = tt}).text ∙ ap (λ bs. c.args.out.now.items ++ bs) w.is

use Rattle.std.proofs.Common.{◌++◌, ap, sym, ◌∙◌, arith}
use Rattle.tuple_text.proofs.Writing.{plain_run}
use Rattle.tuple_text.proofs.write.put_some.Goals as goal

pub returns : goal.returns
returns g c =
    let plain = plain_run c.args.text.now c.plain_len-plain.result c.plain_len-plain.ensures.within c.plain_len-plain.ensures.plain in
    (omega arith, c.plain_len-plain.ensures.within, c.in_ok-append.ensures ∙ ap (λ t. c.args.out.now.items ++ t) (sym plain))

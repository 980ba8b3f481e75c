use Rattle.std.proofs.Common.{◌++◌, flat_map, string_bytes, encode_utf8_all, append-nil, sym, ap, ◌∙◌, map-id}
use Rattle.std.proofs.lemmas.Iterator.{YieldsList-from_chars}
use Rattle.std.proofs.lemmas.Iterator.Consumers.{YieldsList-end}
use Rattle.std.proofs.lemmas.Result.{err_from_is_err_and}
use Rattle.tuple_text.proofs.Writing.{error_second}
use Rattle.picture.specs.Escaping.{escaped_character}
use Rattle.picture.proofs.Written.{one_more}
use Rattle.picture.proofs.escaping.escape.Goals as goal

pub loop-character-init : goal.loop-character-init
loop-character-init c = sym (append-nil (string_bytes c.args.out.now))

pub loop-character-preserved : goal.loop-character-preserved
loop-character-preserved c =
    one_more (string_bytes c.args.out.now) (string_bytes c.loop-character.out) _ c.loop-character.yielded _ c.loop-character.invariant c.in_ok-put_character.ensures

pub returns-in_err-put_character : goal.returns-in_err-put_character
returns-in_err-put_character c =
    let p = err_from_is_err_and c.from_residual.result c.from_residual.ensures.1 in
    rw (p.1) (error_second (string_bytes c.args.out.now) _ (string_bytes c.loop-character.out) _ c.loop-character.invariant c.in_err-put_character.ensures)

pub returns : goal.returns
returns c =
    let end = YieldsList-end (YieldsList-from_chars c.args.text.now c.utf8.text cc) c.loop-character.yielded _ c.loop-character.yielded_by _ _ c.in-None.is c.next.ensures.steps in
    c.loop-character.invariant
    ∙ ap (λ cs. string_bytes c.args.out.now ++ encode_utf8_all (flat_map escaped_character cs)) (sym (map-id c.loop-character.yielded) ∙ end.0)

use Rattle.std.proofs.Common.{◌≡◌, ◌<◌, ℕ, true, false, subst, ap, sym, ◌∙◌, get_or, arith}
use Rattle.std.proofs.lemmas.List.{get_or-drop}
use Rattle.tuple_text.specs.Literals.{is_hex}
use Rattle.tuple_text.proofs.PlainText.{further}
use Rattle.tuple_text.proofs.literals.hex_len.Goals as goal

pub returns-clause-hex : goal.returns-clause-hex
returns-clause-hex c =
    further is_hex c.args.bytes.now c.hex_groups-groups.result c.hex_front.result c.hex_groups-groups.ensures.hex
    (subst (λ xs. (k : ℕ) → k < c.hex_front.result → is_hex (get_or xs k 0) ≡ true) c.split_at.ensures.back c.hex_front.ensures.hex)

pub returns-clause-ends : goal.returns-clause-ends
returns-clause-ends c h =
    let bytes = c.args.bytes.now in
    let n = c.hex_groups-groups.result in
    let m = c.hex_front.result in
    let e : is_hex (get_or c.split_at.result.1.now m 0) ≡ false = c.hex_front.ensures.ends (omega (arith, h, c.split_at.ensures.back_len)) in
    ap is_hex (sym (ap (λ xs. get_or xs m 0) c.split_at.ensures.back ∙ get_or-drop n bytes m 0)) ∙ e

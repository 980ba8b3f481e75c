use Rattle.std.proofs.Common.{◌≡◌, Ok, sym, ap, ◌∙◌}
use Rattle.std.specs.Fmt.{decimal}
use Rattle.std.proofs.lemmas.Bool.{both_ways}
use Rattle.std.proofs.lemmas.Fmt.{parse-decimal}
use Rattle.std.proofs.lemmas.Slice.Eq.{bytes_eq-Decides}
use Rattle.schedule_text.proofs.Numbers.{number_utf8}
use Rattle.schedule_text.proofs.arguments.number_in.Goals as goal

pub returns-in_default : goal.returns-in_default
returns-in_default c s h = (c.in_default.ensures {u = tt}).cases.0 (number_utf8 s c.args.text.now h)

pub returns-in_default-parse : goal.returns-in_default-parse
returns-in_default-parse c s h =
    let word : c.in-Ok.word.now ≡ c.args.text.now = (c.in-Ok.ensures {u = tt}).cases.0 in
    c.in_default-parse.not-Ok s (parse-decimal 64 s c.in-Ok.word.now c.parse.result h.1 h.1 (word ∙ h.0) c.parse.ensures.value.0)

pub returns-else-eq : goal.returns-else-eq
returns-else-eq c s h =
    let word : c.in-Ok.word.now ≡ c.args.text.now = (c.in-Ok.ensures {u = tt}).cases.0 in
    let read : c.parse.result ≡ Ok s = parse-decimal 64 s c.in-Ok.word.now c.parse.result h.1 h.1 (word ∙ h.0) c.parse.ensures.value.0 in
    let was : c.parse.result ≡ Ok c.in-Ok-parse.number = c.in-Ok-parse.is in
    let number : c.in-Ok-parse.number ≡ s = cc in
    let same : c.as_bytes.result.now ≡ c.args.text.now = c.as_bytes.ensures.value ∙ c.format.ensures.text ∙ ap decimal number ∙ sym h.0 in
    both_ways c.eq.result c.if-eq.false (c.eq.ensures ∙ (bytes_eq-Decides c.as_bytes.result.now c.args.text.now).1 same)

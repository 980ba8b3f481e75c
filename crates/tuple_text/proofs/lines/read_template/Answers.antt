use Rattle.std.proofs.Common.{◌≡◌, ◌∙◌, refl, ap, sym, subst, arith, ◌-◌, ◌<◌, ◌≤◌, min, length}
use Rattle.tuple_text.specs.Faults.{Faults, behind}
use Rattle.tuple_text.specs.Reading.{lone_template, got, fault_at}
use Rattle.tuple_text.proofs.Alone.{as_line, text_front, text_front_is, text_is_line, text_too_big, text_reads_only}
use Rattle.tuple_text.proofs.Alone.{text_faults, text_memory}
use Rattle.tuple_text.proofs.lines.read_template.Goals as goal

pub same-template : goal.same-template
same-template g c = refl

pub returns-then-text-gt-MAX_TEXT-clause-answer : goal.returns-then-text-gt-MAX_TEXT-clause-answer
returns-then-text-gt-MAX_TEXT-clause-answer g c =
    let m : c.min.result ≡ min (length c.args.text.now) 65532 = c.min.ensures in
    let l : 65532 < length c.args.text.now = omega arith in
    let e : lone_template (text_front c.args.text.now) ≡ got c.in-Ok.template c.lone_template.new.self.rest.now = ap lone_template (sym (text_front_is c.args.text.now c.min.result m) ∙ sym c.new-reader.ensures) ∙ c.in-Ok.ensures {u = tt} in
    text_too_big c.args.text.now c.in-Ok.template c.lone_template.new.self.rest.now l e

pub returns-else-text-gt-MAX_TEXT-clause-answer : goal.returns-else-text-gt-MAX_TEXT-clause-answer
returns-else-text-gt-MAX_TEXT-clause-answer g c =
    let m : c.min.result ≡ min (length c.args.text.now) 65532 = c.min.ensures in
    let l : length c.args.text.now ≤ 65532 = omega arith in
    let e : lone_template (text_front c.args.text.now) ≡ got c.in-Ok.template c.lone_template.new.self.rest.now = ap lone_template (sym (text_front_is c.args.text.now c.min.result m) ∙ sym c.new-reader.ensures) ∙ c.in-Ok.ensures {u = tt} in
    text_is_line c.args.text.now c.in-Ok.template c.lone_template.new.self.rest.now l e

pub returns-else-text-gt-MAX_TEXT-clause-only : goal.returns-else-text-gt-MAX_TEXT-clause-only
returns-else-text-gt-MAX_TEXT-clause-only g c p h =
    let m : c.min.result ≡ min (length c.args.text.now) 65532 = c.min.ensures in
    let e : lone_template (text_front c.args.text.now) ≡ got c.in-Ok.template c.lone_template.new.self.rest.now = ap lone_template (sym (text_front_is c.args.text.now c.min.result m) ∙ sym c.new-reader.ensures) ∙ c.in-Ok.ensures {u = tt} in
    text_reads_only c.args.text.now p c.in-Ok.template c.lone_template.new.self.rest.now h e

pub returns-in-Err-clause-answer : goal.returns-in-Err-clause-answer
returns-in-Err-clause-answer g c =
    let m : c.min.result ≡ min (length c.args.text.now) 65532 = c.min.ensures in
    let at = c.new-reader.ensures ∙ text_front_is c.args.text.now c.min.result m in
    let f = text_faults c.args.text.now c.in-Err.stop c.new-reader.result.rest.now c.lone_template.new.self.rest.now at (c.in-Err.ensures {u = tt}) in
    let n : length c.new-reader.result.rest.now - length c.lone_template.new.self.rest.now ≡ c.saturating_sub.result = omega (arith, ap length c.new-reader.ensures) in
    subst (λ x. Faults (behind 4 x) (as_line c.args.text.now)) (ap (λ n. fault_at n c.in-Err.stop) n ∙ sym c.fault.ensures) f

pub returns-in-Err-clause-only : goal.returns-in-Err-clause-only
returns-in-Err-clause-only g c p h =
    let m : c.min.result ≡ min (length c.args.text.now) 65532 = c.min.ensures in
    let at = c.new-reader.ensures ∙ text_front_is c.args.text.now c.min.result m in
    c.fault.ensures ∙ text_memory c.args.text.now c.in-Err.stop c.new-reader.result.rest.now c.lone_template.new.self.rest.now c.saturating_sub.result p at (c.in-Err.ensures {u = tt}) h

use Rattle.std.proofs.Common.{◌≡◌, ◌∙◌, ap, sym, subst, rules, arith, ◌-◌, ◌<◌, ◌≤◌, min, length}
use Rattle.tuple_codec.specs.OperationView.{operation_of}
use Rattle.tuple_text.specs.Faults.{Faults}
use Rattle.tuple_text.specs.Reading.{line, got, fault_at}
use Rattle.tuple_text.proofs.Judging.{front, front_is, read_is_line, too_big, line_reads_only, line_not_skipped}
use Rattle.tuple_text.proofs.Judging.{stops_faults, stops_memory}
use Rattle.tuple_text.proofs.lines.read_line.Goals as goal

pub returns-then-is_skipped-clause-only : goal.returns-then-is_skipped-clause-only
returns-then-is_skipped-clause-only g c o h = line_not_skipped c.args.line.now o h.text (search rules)

pub returns-then-line-gt-MAX_LINE-clause-answer : goal.returns-then-line-gt-MAX_LINE-clause-answer
returns-then-line-gt-MAX_LINE-clause-answer g c =
    let m : c.min.result ≡ min (length c.args.line.now) 65536 = c.min.ensures in
    let l : 65536 < length c.args.line.now = omega arith in
    let e : line (front c.args.line.now) ≡ got (operation_of c.in-Ok.op) c.line.new.self.rest.now = ap line (sym (front_is c.args.line.now c.min.result m) ∙ sym c.new-reader.ensures) ∙ c.in-Ok.ensures {u = tt} in
    (λ k. search rules, too_big c.args.line.now (operation_of c.in-Ok.op) c.line.new.self.rest.now l e)

pub returns-else-line-gt-MAX_LINE-clause-answer : goal.returns-else-line-gt-MAX_LINE-clause-answer
returns-else-line-gt-MAX_LINE-clause-answer g c =
    let m : c.min.result ≡ min (length c.args.line.now) 65536 = c.min.ensures in
    let l : length c.args.line.now ≤ 65536 = omega arith in
    let e : line (front c.args.line.now) ≡ got (operation_of c.in-Ok.op) c.line.new.self.rest.now = ap line (sym (front_is c.args.line.now c.min.result m) ∙ sym c.new-reader.ensures) ∙ c.in-Ok.ensures {u = tt} in
    read_is_line c.args.line.now (operation_of c.in-Ok.op) c.line.new.self.rest.now l e

pub returns-else-line-gt-MAX_LINE-clause-only : goal.returns-else-line-gt-MAX_LINE-clause-only
returns-else-line-gt-MAX_LINE-clause-only g c o h =
    let m : c.min.result ≡ min (length c.args.line.now) 65536 = c.min.ensures in
    let e : line (front c.args.line.now) ≡ got (operation_of c.in-Ok.op) c.line.new.self.rest.now = ap line (sym (front_is c.args.line.now c.min.result m) ∙ sym c.new-reader.ensures) ∙ c.in-Ok.ensures {u = tt} in
    line_reads_only c.args.line.now o (operation_of c.in-Ok.op) c.line.new.self.rest.now h e

pub returns-in-Err-clause-answer : goal.returns-in-Err-clause-answer
returns-in-Err-clause-answer g c =
    let m : c.min.result ≡ min (length c.args.line.now) 65536 = c.min.ensures in
    let at = c.new-reader.ensures ∙ front_is c.args.line.now c.min.result m in
    let f = stops_faults c.args.line.now c.in-Err.stop c.new-reader.result.rest.now c.line.new.self.rest.now at (c.in-Err.ensures {u = tt}) in
    let n : length c.new-reader.result.rest.now - length c.line.new.self.rest.now ≡ c.saturating_sub.result = omega (arith, ap length c.new-reader.ensures) in
    (λ k. search rules, subst (λ x. Faults x c.args.line.now) (ap (λ n. fault_at n c.in-Err.stop) n ∙ sym c.fault.ensures) f)

pub returns-in-Err-clause-only : goal.returns-in-Err-clause-only
returns-in-Err-clause-only g c o h =
    let m : c.min.result ≡ min (length c.args.line.now) 65536 = c.min.ensures in
    let at = c.new-reader.ensures ∙ front_is c.args.line.now c.min.result m in
    c.fault.ensures ∙ stops_memory c.args.line.now c.in-Err.stop c.new-reader.result.rest.now c.line.new.self.rest.now c.saturating_sub.result o at (c.in-Err.ensures {u = tt}) h

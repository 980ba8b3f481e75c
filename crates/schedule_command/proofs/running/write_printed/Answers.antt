use Rattle.std.proofs.Common.{[], ◌++◌, refl, ap, ◌∙◌}
use Rattle.schedule_command.specs.Texts.{numbered_lines}
use Rattle.schedule_command.specs.Writing.{lines_of_report}
use Rattle.schedule_command.proofs.Written.{held_on, held_more, printed_out}
use Rattle.schedule_command.proofs.running.write_printed.Goals.{in-Report+in_ok-put_report-in-Report, in-Trace+in_ok-write_trace-in-Trace+in_ok-put_report-in-Trace, in-Picture+in_ok-draw-in-Picture}
use Rattle.schedule_command.proofs.running.write_printed.Goals as goal

pub returns : goal.returns
returns g c =
    let first = g.W.Write.contents c.args.writer.now in
    let mid = g.W.Write.contents c.match-printed.writer in
    let last = g.W.Write.contents c.write_out.new.writer in
    let held = c.match-printed.text.items in
    let report = c.args.report.now in
    elim c.match-printed.branch [
      | in-Report+in_ok-put_report-in-Report w ↦ printed_out c.args.printed report c.write_out.result first mid last held held (rw w.writer-is (held_on first [] held held refl))
          (rw w.in-Report.is (ap (λ v. v.items) w.text-is ∙ (rw c.new-text.ensures.items at w.in_ok-put_report-in-Report.ensures)))
          c.write_out.ensures.written c.write_out.ensures.err
      | in-Trace+in_ok-write_trace-in-Trace+in_ok-put_report-in-Trace w ↦
          printed_out c.args.printed report c.write_out.result first mid last held (numbered_lines 0 report.trace.items ++ lines_of_report report)
          (rw (w.writer-is, w.text-is)
          (held_more first (g.W.Write.contents w.write_trace.new.writer) (numbered_lines 0 report.trace.items) w.write_trace.new.text.items (lines_of_report report) w.put_report-in-Trace.new.text.items
          (rw (c.new-text.ensures.items, w.as_slice.ensures.value) at w.in_ok-write_trace-in-Trace.ensures.on) w.in_ok-put_report-in-Trace.ensures))
          (rw w.in-Trace.is refl) c.write_out.ensures.written c.write_out.ensures.err
      | in-Picture+in_ok-draw-in-Picture w ↦ printed_out c.args.printed report c.write_out.result first mid last held held (rw w.writer-is (held_on first [] held held refl))
          (rw (w.in-Picture.is, w.text-is) (rw c.new-text.ensures.items at w.in_ok-draw-in-Picture.ensures.ok)) c.write_out.ensures.written c.write_out.ensures.err
    ]

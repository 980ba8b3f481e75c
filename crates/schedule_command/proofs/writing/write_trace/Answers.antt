use Rattle.std.proofs.Common.{[], ◌++◌, take, ap, sym, subst, ◌∙◌, append-nil}
use Rattle.one_space.specs.Endings.{FrontIsWritten}
use Rattle.schedule_command.specs.Texts.{numbered_line, numbered_lines}
use Rattle.schedule_command.proofs.Written.{held_on, one_line_more, all_lines, writes_more}
use Rattle.schedule_command.proofs.writing.write_trace.Goals as goal

pub loop-position-init : goal.loop-position-init
loop-position-init g c = held_on (g.W.Write.contents c.args.writer.now) c.args.text.now.items [] c.args.text.now.items (sym (append-nil c.args.text.now.items))

pub loop-position-preserved : goal.loop-position-preserved
loop-position-preserved g c =
    let trace = c.args.trace.now in
    let position = c.loop-position.position in
    let entry = c.index-trace-position.result in
    let line = ap (λ e. numbered_lines 0 (take position trace) ++ numbered_line position e) c.index-trace-position.is ∙ sym (one_line_more trace position entry c.loop-position-test.true) in
    subst (λ l. FrontIsWritten (g.W.Write.contents c.args.writer.now) (g.W.Write.contents c.write_numbered.new.writer) (c.args.text.now.items ++ l) c.write_numbered.new.text.items) line
    (writes_more (g.W.Write.contents c.args.writer.now) (g.W.Write.contents c.loop-position.writer) (g.W.Write.contents c.write_numbered.new.writer) c.args.text.now.items
    (numbered_lines 0 (take position trace)) (numbered_line position entry) c.loop-position.text.items c.write_numbered.new.text.items c.loop-position.invariant c.in_ok-write_numbered.ensures.on)

pub returns-clause-on : goal.returns-clause-on
returns-clause-on g c =
    subst (λ l. FrontIsWritten (g.W.Write.contents c.args.writer.now) (g.W.Write.contents c.loop-position.writer) (c.args.text.now.items ++ l) c.loop-position.text.items)
    (all_lines c.args.trace.now c.loop-position.position c.loop-position-test.false) c.loop-position.invariant

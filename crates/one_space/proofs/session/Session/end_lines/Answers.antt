use Rattle.std.proofs.Common.{refl}
use Rattle.one_space.proofs.RunLemmas.{late_so, moved, none_left, not_read, one_too_many}
use Rattle.one_space.proofs.session.Session.end_lines.Goals as goal

pub returns-in-Ok-true : goal.returns-in-Ok-true
returns-in-Ok-true g c first bytes start here =
    let gone = moved _ first bytes start _ _ _ _ _ _ refl refl refl (c.in_default.ensures {u = tt}).results here in
    late_so _ first bytes start _ _ _ _ c.args.self.now.space _ _ gone c.refuse_late.result refl
    (one_too_many _ first bytes start _ _ _ _ gone c.has_line.result c.has_line.ensures c.in-Ok-true.field-0 c.in-Ok-true.is c.in-Ok-true.field-0-test) c.refuse_late.ensures

pub returns-in-Ok-false : goal.returns-in-Ok-false
returns-in-Ok-false g c first bytes start here =
    let gone = moved _ first bytes start _ _ _ _ _ _ refl refl refl (c.in_default.ensures {u = tt}).results here in
    none_left _ first bytes start _ _ _ _ gone c.has_line.result c.has_line.ensures c.in-Ok-false.field-0 c.in-Ok-false.is c.in-Ok-false.field-0-test

pub returns-in-Err-has_line : goal.returns-in-Err-has_line
returns-in-Err-has_line g c first bytes start here =
    let gone = moved _ first bytes start _ _ _ _ _ _ refl refl refl (c.in_default.ensures {u = tt}).results here in
    rw c.from.ensures (not_read _ first bytes start _ _ _ _ gone c.has_line.result c.has_line.ensures c.in-Err-has_line.fault)

use Rattle.std.proofs.Common.{length, ◌∙◌, sym}
use Rattle.std.proofs.lemmas.Bool.{eqb-true, eq-eqb}
use Rattle.tuple_text.proofs.Judging.{blanks_left, left_nothing}
use Rattle.tuple_text.proofs.reader.Reader.is_blank.Goals as goal

pub returns : goal.returns
returns c = (
  λ h. blanks_left c.args.self.rest.now c.blanks.result c.blanks.new.self.rest.now c.blanks.ensures (eqb-true (length c.blanks.new.self.rest.now) 0 (sym c.is_empty.ensures ∙ h)),
  λ h. c.is_empty.ensures ∙ eq-eqb (length c.blanks.new.self.rest.now) 0 (left_nothing c.args.self.rest.now c.blanks.result c.blanks.new.self.rest.now c.blanks.ensures h),
)

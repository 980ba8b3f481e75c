use Rattle.std.proofs.Common.{refl}
use Rattle.tuple_text.proofs.reader.Reader.closing_template.Goals as goal

pub same-template : goal.same-template
same-template g c = refl

-- A written text is read again as its value.
use Rattle.std.specs.Prelude.{◌++◌, codes}
use Rattle.tuple_tree.specs.Values.{TupleTree, TemplateTree, IsTuple, IsTemplate}
use Rattle.tuple_codec.specs.Operations.{out, rdp}
use Rattle.tuple_text.specs.Lines.{IsLine}
use Rattle.tuple_text.specs.Written.{tuple_written, template_written}

-- "out " and the written text of a tuple within the limits are the line of that tuple's out.
abbrev pub TuplesAreLines : Type 0
TuplesAreLines = (t : TupleTree) → IsTuple t → IsLine (out t) (codes "out " ++ tuple_written t)

-- "rdp " and the written text of a template within the limits are the line of that template's rdp.
abbrev pub TemplatesAreLines : Type 0
TemplatesAreLines = (p : TemplateTree) → IsTemplate p → IsLine (rdp p) (codes "rdp " ++ template_written p)

use Rattle.std.proofs.Common.{subst, sym}
use Rattle.tuple_tree.specs.Values.{IsUtf8IfText}
use Rattle.tuple_text.proofs.Leaves.{read_utf8_if_text}
use Rattle.tuple_text.proofs.reader.Reader.add_literal.Goals as goal

pub add_atom-requires : goal.add_atom-requires
add_atom-requires g c = subst IsUtf8IfText (sym c.atom.ensures) (read_utf8_if_text c.args.self.now.rest.now _ c.literal.new.self.rest.now c.in_ok-literal.ensures)

use Rattle.tuple_tree.specs.Values.{text}
use Rattle.tuple_text.proofs.Leaves.{read_utf8_if_text}
use Rattle.tuple_text.proofs.reader.Reader.add_atom.Goals as goal

pub add_atom-requires : goal.add_atom-requires
add_atom-requires g c = read_utf8_if_text c.args.self.now.rest.now (text c.in-Some.text.now) c.plain_text.new.self.rest.now ((c.in-Some.ensures {u = tt}).some)

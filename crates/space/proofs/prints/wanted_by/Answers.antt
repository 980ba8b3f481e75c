use Rattle.std.proofs.Common.{sym, ◌∙◌}
use Rattle.tuple_tree.specs.Seen.{seen_datum}
use Rattle.space.proofs.Printed.{print_matches}
use Rattle.space.proofs.prints.wanted_by.Goals as goal

pub returns-in-Some : goal.returns-in-Some
returns-in-Some g c = λ e h unlike. unlike (print_matches c.args.template.now e.1 (seen_datum c.in-Some.atom) (c.in-Some.ensures {u = tt}) h ∙ sym c.print_of.ensures)

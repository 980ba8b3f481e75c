use Rattle.std.proofs.Common.{subst, arith}
use Rattle.toml.specs.View.{table_view}
use Rattle.party_keys.specs.Reading.{SaysAll}
use Rattle.party_keys.proofs.Once.{same_some}
use Rattle.party_keys.proofs.Refusals.{judged}
use Rattle.party_keys.proofs.reading.read_file.Goals as goal

pub returns-in-Ok : goal.returns-in-Ok
returns-in-Ok c =
    let read = (c.in-Ok.ensures {u = tt}).ok in
    judged c.read_table.result
    (λ k says. record { table = table_view c.in-Ok.table; size = omega (arith, c.if-text-gt-MAX_FILE.false); utf8 = read.0; parsed = read.1; all = says })
    (λ none j says. none j (subst (λ t. SaysAll t j) (same_some _ says.table (table_view c.in-Ok.table) says.parsed read.1) says.all))
    c.read_table.ensures

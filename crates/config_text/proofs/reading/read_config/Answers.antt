use Rattle.std.proofs.Common.{subst, arith}
use Rattle.toml.specs.View.{table_view}
use Rattle.config_text.specs.Reading.{SaysAll}
use Rattle.config_text.proofs.Once.{same_some}
use Rattle.config_text.proofs.Refusals.{judged}
use Rattle.config_text.proofs.reading.read_config.Goals as goal

pub returns-in-Ok : goal.returns-in-Ok
returns-in-Ok c =
    let read = (c.in-Ok.ensures {u = tt}).ok in
    judged c.read_table.result
    (λ s says. record { table = table_view c.in-Ok.table; size = omega (arith, c.if-text-gt-MAX_CONFIG.false); utf8 = read.0; parsed = read.1; all = says })
    (λ none d journal says. none d journal (subst (λ t. SaysAll t d journal) (same_some _ says.table (table_view c.in-Ok.table) says.parsed read.1) says.all))
    c.read_table.ensures

use Rattle.std.proofs.Common.{◌∙◌, sym}
use Rattle.std.proofs.lemmas.Bool.{false≢true}
use Rattle.std.proofs.lemmas.Result.{err_from_is_err_and}
use Rattle.config_text.proofs.Refusals.{because}
use Rattle.config_text.proofs.Keys.{all_known, known_all}
use Rattle.config_text.proofs.reading.read_table.Goals as goal

pub returns-then-not-has_known_keys : goal.returns-then-not-has_known_keys
returns-then-not-has_known_keys c d journal says =
    false≢true (sym c.if-not-has_known_keys.true ∙ c.has_known_keys.ensures ∙ known_all c.args.table.now.entries says.known)

pub returns-in_err-journal : goal.returns-in_err-journal
returns-in_err-journal c =
    let p = err_from_is_err_and c.from_residual.result c.from_residual.ensures.1 in
    rw (p.1, p.2) (because c.in_err-journal.field-0.0 (λ none d journal says. none journal says.journal_is says.range) (c.in_err-journal.ensures {u = tt}))

pub returns : goal.returns
returns c = record {
  known = all_known c.args.table.now.entries (sym c.has_known_keys.ensures ∙ c.if-not-has_known_keys.false);
  parties = (c.in_ok-config.ensures {u = tt}).0;
  valid = (c.in_ok-config.ensures {u = tt}).1;
  journal_is = (c.in_ok-journal.ensures {u = tt}).0;
  range = (c.in_ok-journal.ensures {u = tt}).1;
}

use Rattle.journal.specs.Ties.{no_book}
use Rattle.journal_tests.proofs.appends.a_full_journal_takes_no_more.Given as goal

-- the configuration that was just made
abbrev pub ghosts-is_full : goal.ghosts-is_full
ghosts-is_full g a = record { config = a.config.now; book = no_book }

use Rattle.journal.specs.Ties.{no_book}
use Rattle.journal_tests.proofs.appends.journals_keep_their_limits.Given as goal

-- the configuration that was just made
abbrev pub ghosts-is_limited : goal.ghosts-is_limited
ghosts-is_limited g a = record { config = a.config.now; book = no_book }

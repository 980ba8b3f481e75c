use Rattle.journal.specs.Ties.{no_book}
use Rattle.journal_tests.proofs.ordering.reads_stand_beside.Given as goal

-- the configuration that was just made
abbrev pub ghosts-is_ordered : goal.ghosts-is_ordered
ghosts-is_ordered g a = record { config = a.config.now; book = no_book }

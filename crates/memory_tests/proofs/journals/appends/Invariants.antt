use Rattle.journal.specs.Ties.{no_book}
use Rattle.memory_tests.proofs.journals.appends.Given as goal

-- the configuration that was just made
abbrev pub ghosts-tally_of : goal.ghosts-tally_of
ghosts-tally_of g a = record { config = a.config.now; book = no_book }

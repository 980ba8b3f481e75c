use Rattle.journal.specs.Ties.{no_book}
use Rattle.journal_tests.proofs.carried.faulty_senders_are_exempt.Given as goal

-- the configuration that was just made
abbrev pub ghosts-comes_from_faulty : goal.ghosts-comes_from_faulty
ghosts-comes_from_faulty g a = record { config = a.config.now; book = no_book }

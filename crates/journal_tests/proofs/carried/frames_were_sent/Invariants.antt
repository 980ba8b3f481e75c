use Rattle.journal.specs.Ties.{no_book}
use Rattle.journal_tests.proofs.carried.frames_were_sent.Given as goal

-- the configuration that was just made
abbrev pub ghosts-comes_from_client : goal.ghosts-comes_from_client
ghosts-comes_from_client g a = record { config = a.config.now; book = no_book }

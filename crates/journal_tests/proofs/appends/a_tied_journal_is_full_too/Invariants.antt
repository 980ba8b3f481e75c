use Rattle.journal_tests.proofs.appends.a_tied_journal_is_full_too.Given as goal

-- the configuration and the book that were just made
abbrev pub ghosts-is_full_tied : goal.ghosts-is_full_tied
ghosts-is_full_tied g a = record { config = a.config.now; book = a.opened }

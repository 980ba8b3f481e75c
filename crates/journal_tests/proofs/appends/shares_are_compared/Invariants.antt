use Rattle.journal_tests.proofs.appends.shares_are_compared.Given as goal

-- the configuration and the book that were just made
abbrev pub ghosts-is_compared : goal.ghosts-is_compared
ghosts-is_compared g a = record { config = a.config.now; book = a.opened }

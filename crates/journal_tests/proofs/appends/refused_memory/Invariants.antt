use Rattle.journal_tests.proofs.appends.refused_memory.Given as goal

-- the configuration and the book that were just made
abbrev pub ghosts-is_safe : goal.ghosts-is_safe
ghosts-is_safe g a = record { config = a.config.now; book = a.opened }

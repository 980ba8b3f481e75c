use Rattle.journal_tests.proofs.ordering.reads_stand_beside_where_tied.Given as goal

-- the configuration and the book that were just made
abbrev pub ghosts-is_ordered_tied : goal.ghosts-is_ordered_tied
ghosts-is_ordered_tied g a = record { config = a.config.now; book = a.opened }

use Rattle.memory_tests.proofs.clusters.tally_of.Given as goal

-- the configuration, and the book that was just made
abbrev pub ghosts-start_and_finish : goal.ghosts-start_and_finish
ghosts-start_and_finish g a = record { config = a.config.now; book = a.opened }

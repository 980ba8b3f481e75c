use Rattle.command_tests.proofs.clusters.run_alone.Given as goal

-- the configuration that was read, and the book that was just made
abbrev pub ghosts-run : goal.ghosts-run
ghosts-run g a = record { config = a.settings.now.config; book = a.opened }

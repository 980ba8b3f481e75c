use Rattle.space_node_tests.proofs.starts.run_without_calls.Given as goal

-- the configuration and the book that were just made
abbrev pub ghosts-starts_and_ends : goal.ghosts-starts_and_ends
ghosts-starts_and_ends g a = record { config = a.config.now; book = a.opened }

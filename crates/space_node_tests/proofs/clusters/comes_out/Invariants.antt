use Rattle.space_node_tests.proofs.clusters.comes_out.Given as goal

-- the configuration and the book that were just made
abbrev pub ghosts-starts : goal.ghosts-starts
ghosts-starts g a = record { config = a.config.now; book = a.opened }

use Rattle.lock_service.proofs.start.Given as goal

-- the configuration and the book that were just made
abbrev pub ghosts-serve : goal.ghosts-serve
ghosts-serve g a = record { config = a.config.now; book = a.opened }

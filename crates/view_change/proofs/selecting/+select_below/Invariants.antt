use Rattle.view_change.proofs.selecting.+select_below.Given as goal

abbrev pub decreases-select_below : goal.decreases-select_below
decreases-select_below l = l.limit

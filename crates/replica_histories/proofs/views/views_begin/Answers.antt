use Rattle.replica_histories.proofs.Changing
use Rattle.replica_histories.proofs.NewViews
use Rattle.replica_histories.proofs.views.views_begin.Goals as goal

pub returns : goal.returns
returns c = record { enter = NewViews.new_views_enter; fit = NewViews.new_views_fit; again = Changing.new_views_go_again; ask = NewViews.starts_may_ask }

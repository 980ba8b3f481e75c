-- The definitions refuse a correct replica that goes on and does not send again what it sent.
use Rattle.std.proofs.Common.{◌≡◌, ℕ, true, List, reverse}
use Rattle.wire_format.specs.Messages.{view_change as ViewChange, new_view as NewView}
use Rattle.protocol.specs.System.Configuration.{Configuration}
use Rattle.protocol.specs.System.Trace.{Entry}
use Rattle.protocol.specs.System.Trace.Entry.{Got}
use Rattle.protocol.specs.Replica.Certificates.{is_active_in}
use Rattle.protocol.specs.Replica.RightReplica.{Point, HistoryReaches}
use Rattle.protocol.specs.Replica.Owed.{IsSending, SendsRow, SendsView, SendsAgain}
use Rattle.evidence.specs.RefusedResending.{GetsAgain, IsRunning, SendsPreparesAgain, SendsCommitsAgain, SendsBatchesAgain, SendsNewViewsAgain, SendsCheckpointsAgain, SendsChangesAgain}
use Rattle.evidence.proofs.RefusingOwed.{event_of}
use Rattle.protocol.proofs.Words.Elements.{has_reverse}

-- what it gives, and the point at the input
again : (c : Configuration) (me : ℕ) (bytes : List ℕ) (outputs past : List Entry) → GetsAgain c me bytes outputs past
    → (old : Point) × HistoryReaches c me past old × SendsAgain c me past old.state.number (reverse outputs)
again c me bytes outputs past g =
    let e = event_of c me outputs (Got me bytes) past g.goes in
    (e.old, e.before, e.owes.says_again (g.call, g.waits e.old e.before, g.receives))

row_again : (c : Configuration) (me v i : ℕ) (bytes : List ℕ) (outputs past : List Entry) → IsRunning c me past v i → GetsAgain c me bytes outputs past → SendsRow c me past v i (reverse outputs)
row_again c me v i bytes outputs past r g = let a = again c me bytes outputs past g in (a.2.active v r.active).rows i (r.above a.0 a.1) r.marks

view_again : (c : Configuration) (me v : ℕ) (bytes : List ℕ) (outputs past : List Entry) → is_active_in c past v ≡ true → GetsAgain c me bytes outputs past
    → (old : Point) × SendsView c me past old.state.number v (reverse outputs)
view_again c me v bytes outputs past active g = let a = again c me bytes outputs past g in (a.0, a.2.active v active)

pub sends_prepares_again : SendsPreparesAgain
sends_prepares_again c me v i digest bytes outputs past r is g = has_reverse _ outputs ((row_again c me v i bytes outputs past r g).prepare digest is)

pub sends_commits_again : SendsCommitsAgain
sends_commits_again c me v i digest bytes outputs past r is g = has_reverse _ outputs ((row_again c me v i bytes outputs past r g).commit digest is)

pub sends_batches_again : SendsBatchesAgain
sends_batches_again c me v i batch bytes outputs past r own below is g = has_reverse _ outputs ((row_again c me v i bytes outputs past r g).batch batch own below is)

pub sends_new_views_again : SendsNewViewsAgain
sends_new_views_again c me v bytes outputs past active own later g =
    let n = (view_again c me v bytes outputs past active g).1.new_view own later in
    (n.0, n.1, has_reverse (IsSending me (NewView n.0)) outputs n.2)

pub sends_checkpoints_again : SendsCheckpointsAgain
sends_checkpoints_again c me v m bytes outputs past active is g = has_reverse _ outputs ((view_again c me v bytes outputs past active g).1.checkpoint m is)

pub sends_changes_again : SendsChangesAgain
sends_changes_again c me bytes outputs past left g =
    let n = (again c me bytes outputs past g).2.inactive left in
    (n.0, n.1, has_reverse (IsSending me (ViewChange n.0)) outputs n.2)

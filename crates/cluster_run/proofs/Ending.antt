-- The end of a cluster.
use Rattle.std.proofs.Common.{ℕ, List}
use Rattle.protocol.specs.System.Configuration.{Configuration}
use Rattle.protocol.specs.System.Trace.{Entry}
use Rattle.space_node.specs.Runs.{IsFinished}
use Rattle.space_node.specs.PartyStates.{PartyState}
use Rattle.cluster_run.specs.Hands.{HasTrace}

-- Its trace is proper, and has the histories of the clients that were handed in.
pub has_trace : (c : Configuration) (trace : List Entry) (shares : List PartyState) (stopped : List ℕ) (clients : List PartyState)
    → IsFinished c trace shares stopped clients → HasTrace c clients
has_trace c trace shares stopped clients finished = record {
  trace = trace;
  proper = record {
    run = finished.whole.run;
    unforged = finished.unforged;
    linear = finished.linear;
  };
  clients_are = finished.whole.clients_are;
}

-- How a step changes the list of the parties.
use Rattle.std.proofs.Common.{◌≡◌, ℕ, suc, ◌<◌, true, false, List, [], length, get_or, set, sym, ap, ◌∙◌}
use Rattle.std.specs.Prelude.{is_some}
use Rattle.std.proofs.lemmas.List.{get_or_default}
use Rattle.tuple_codec.specs.Operations.{Operation}
use Rattle.protocol.specs.System.Trace.Entry.{Invoke}
use Rattle.events.specs.declared.output.Output.{Output}
use Rattle.replica.specs.State.{ReplicaData, has_stopped}
use Rattle.replica.specs.Fits as replica_fits
use Rattle.replica.specs.declared.replica.Event.{Event as ReplicaEvent}
use Rattle.client_cert.specs.Steps as client_steps
use Rattle.client_cert.specs.declared.client.Event.{Event as ClientEvent}
use Rattle.schedule_world.specs.declared.stage.StageClient.{StageClient}
use Rattle.schedule_world.specs.Moving.{MovesReplica, MovesClient, ClientCalls}

was : {X : Type 0} (xs : List X) (i p : ℕ) (x : X) → i ≡ p → p < length xs → x ≡ get_or xs i x → (d : X) → get_or xs p d ≡ x
was xs i p x same within is d = get_or_default xs p d x within ∙ ap (λ j. get_or xs j x) (sym same) ∙ sym is

pub moves : (rs : List ReplicaData) (i p : ℕ) (before after : ReplicaData) (event : ReplicaEvent) (outs : List Output) → i ≡ p → p < length rs → before ≡ get_or rs i before
    → replica_fits.me_of after ≡ replica_fits.me_of before → replica_fits.EventLeads before event outs after → replica_fits.SendsAsMeant before outs
    → (has_stopped after ≡ true → outs ≡ []) → MovesReplica rs p event outs (set rs i after)
moves rs i p before after event outs same within is number leads meant silent = record {
  before = before;
  after = after;
  was = was rs i p before same within is;
  becomes = ap (λ j. set rs j after) same;
  number = number;
  leads = leads;
  meant = meant;
  silent = silent;
}

pub moves_client : (stage_clients : List StageClient) (i k : ℕ) (before after : StageClient) (event : ClientEvent) (outs : List Output) → i ≡ k → k < length stage_clients → before ≡ get_or stage_clients i before
    → after.client.number ≡ before.client.number → after.calls ≡ before.calls → client_steps.EventLeads before.client event outs after.client
    → client_steps.SendsAsMeant before.client outs → (after.client.stopped ≡ true → outs ≡ []) → MovesClient stage_clients k event outs (set stage_clients i after)
moves_client stage_clients i k before after event outs same within is number calls leads meant silent = record {
  before = before;
  after = after;
  was = was stage_clients i k before same within is;
  becomes = ap (λ j. set stage_clients j after) same;
  number = number;
  calls = calls;
  leads = leads;
  meant = meant;
  silent = silent;
}

pub makes_call : (stage_clients : List StageClient) (i k : ℕ) (before after : StageClient) (op : Operation) (timestamp : ℕ) (outs : List Output) → i ≡ k → k < length stage_clients → before ≡ get_or stage_clients i before
    → after.client.number ≡ before.client.number → timestamp ≡ suc before.calls → after.calls ≡ timestamp
    → (is_some before.client.call ≡ false → client_steps.HistoryStaysRight before.client (Invoke before.client.number (suc before.client.calls) op) outs after.client)
    → client_steps.SendsAsMeant before.client outs → (is_some before.client.call ≡ false → after.client.stopped ≡ true → outs ≡ [])
    → ClientCalls stage_clients k op timestamp outs (set stage_clients i after)
makes_call stage_clients i k before after op timestamp outs same within is number next calls leads meant silent = record {
  before = before;
  after = after;
  was = was stage_clients i k before same within is;
  becomes = ap (λ j. set stage_clients j after) same;
  number = number;
  timestamp_is = next;
  calls = calls;
  leads = leads;
  meant = meant;
  silent = silent;
}

-- The client of `client_cert` leads as its process wants.
use Rattle.std.proofs.Common.{◌≡◌, ℕ, suc, false, List, Result, Ok, Err, IfOk, subst, arith}
use Rattle.terms.specs.Parties.{client_party, client_number}
use Rattle.tuple_codec.specs.declared.operations.Op.{Op}
use Rattle.tuple_codec.specs.OperationView.{operation_of}
use Rattle.protocol.specs.System.Configuration.{Configuration}
use Rattle.protocol.specs.System.Trace.{Entry}
use Rattle.protocol.specs.System.Trace.Entry.{Invoke}
use Rattle.events.specs.Outputs.{after_event, AreSentAsMeant}
use Rattle.events.specs.declared.output.Output.{Output}
use Rattle.client_cert.specs.State.{ClientState, me_of}
use Rattle.client_cert.specs.Steps.{HistoryStaysRight, CallLeads, SendsAsMeant}
use Rattle.client_cert.specs.Fits.{FitsLife}
use Rattle.client_process.specs.Clients.{FitsRunning}

number_back : (n : ℕ) → n ≡ client_number (client_party n)
number_back n = omega arith

-- A call that is made leads to a longer history.
pub call_leads : {A : Type 0} (old new : ClientState) (op : Op A) (outs : List Output) → CallLeads old op outs new → SendsAsMeant old outs → new.stopped ≡ false
    → (c : Configuration) (start : ℕ) (history : List Entry) → FitsRunning c start old history
    → (timestamp : ℕ) × FitsRunning c start new (after_event (me_of old) (Invoke (client_number (me_of old)) timestamp (operation_of op)) outs history)
    × AreSentAsMeant c (me_of old) outs
call_leads old new op outs leads meant runs c start history h = (
  suc old.calls,
  record {
    fits = subst (λ n. FitsLife c start new (after_event (me_of old) (Invoke n (suc old.calls) (operation_of op)) outs history)) (number_back old.number) (leads c start history h.fits);
    runs = runs;
  },
  meant c h.fits.members_are,
)

-- So does an event.
pub event_leads : {V E : Type 0} (items : V → List Output) (old new : ClientState) (input : Entry) (result : Result V E)
    → IfOk result (λ outs. HistoryStaysRight old input (items outs) new) → IfOk result (λ outs. SendsAsMeant old (items outs))
    → IfOk result (λ _. new.stopped ≡ false)
    → IfOk result (λ outs. (c : Configuration) (start : ℕ) (history : List Entry) → FitsRunning c start old history
    → FitsRunning c start new (after_event (me_of old) input (items outs) history) × AreSentAsMeant c (me_of old) (items outs))
event_leads items old new input (Ok outs) leads meant runs =
    λ c start history h. (record { fits = leads c start history h.fits; runs = runs }, meant c h.fits.members_are)
event_leads items old new input (Err stop) leads meant runs = tt

-- An event that begins with a message that orders nothing and is no request.
use Rattle.std.proofs.Common.{◌≡◌, ◌∷◌, ℕ, inl, List, [], Some, None, refl, sym, ap, ◌∙◌, subst}
use Rattle.std.specs.Option.{option_and_then}
use Rattle.wire_format.specs.Messages.{BodyData as Body, MessageData as Message}
use Rattle.signing.specs.AuthenticBody.{authentic}
use Rattle.protocol.specs.System.Configuration.{Configuration, members}
use Rattle.protocol.specs.System.Trace.{Entry}
use Rattle.protocol.specs.System.Trace.Entry.{Got}
use Rattle.protocol.specs.Replica.Certificates.{taken, new_view_from}
use Rattle.protocol.specs.Replica.State.{State, call_in}
use Rattle.replica_histories.specs.Questions.{AnswersInput}
use Rattle.replica_histories.specs.Desk.{Desk}
use Rattle.replica_histories.specs.Events as histories
use Rattle.replica_histories.specs.Changes.{FitsChanges, IsNoChange}
use Rattle.replica_histories.proofs.ChangesPassing.{inputs_enter}
use Rattle.replica_histories.proofs.ChangesKept.{got_keep, others_bring_none}
use Rattle.replica_histories.specs.Inputs.{IsBesideLog, replies_again, asked_by}
use Rattle.replica_histories.proofs.Counting.{others_drop}
use Rattle.replica_histories.proofs.Entering.{inputs_fit}
use Rattle.replica.specs.declared.taking.DueWork.TheVariants as due_work
use Rattle.replica.specs.State.{BothPartsData, AreOne, Gives, heard}
use Rattle.orderer.specs.Fitting.{FitsEvent, changes_held}
use Rattle.replica.specs.Entering.{event_of, TakesBytes}
use Rattle.replica.specs.BothParts.{BothPartsMatchHistory, me_of}
use Rattle.replica.proofs.Beginning.{heard_by, rests, changes_kept, none_taken}
use Rattle.replica.proofs.Parties.{one_self}
use Rattle.orderer.proofs.Staying.{numbers_beside, said_on}
use Rattle.desk.specs.DeskOf.{desk_of}
use Rattle.orderer.proofs.Parties.{same_log}

-- it orders nothing, is no request, no view change and no new view, and asks for no reply
pub record IsBeside (c : Configuration) (body : Body) : Type 0 where
  pub log : IsBesideLog (Some body)
  pub call : call_in c body ≡ None
  pub asks : (st : State) → asked_by st body ≡ []
  pub views : new_view_from c body ≡ None
  pub changes : IsNoChange (Some body)

module _ (r : BothPartsData) (one : AreOne r.orderer r.desk) (c : Configuration) (past : List Entry) (runs : BothPartsMatchHistory c r past) (bytes : List ℕ) (body : Body)
    (receives : authentic (members c (me_of r)) (me_of r) bytes ≡ Some body) where
  -- it takes no new view
  pub takes_none : new_view_from c body ≡ None → taken c past (Got (me_of r) bytes) ≡ None
  takes_none none = none_taken c past (Got (me_of r) bytes) (ap (option_and_then (new_view_from c)) receives ∙ none)

  -- The view-change data fit, if the log stays, whatever the desk does.
  pub changes_beside : (later : Desk) (due : List Message) → new_view_from c body ≡ None → IsNoChange (Some body) → histories.BothFitWithinEvent c (me_of r) (event_of c r past runs bytes) later r.orderer.log due []
      → FitsChanges c (me_of r) r.orderer.log (changes_held r.orderer) (Got (me_of r) bytes ∷ past)
  changes_beside later due none silent enters =
      changes_kept r one c past runs bytes r.orderer.log (same_log r.orderer.log) refl
      (λ passes. got_keep c (me_of r) past bytes r.orderer.log r.orderer.log passes (record { view = refl; active = refl }) (takes_none none) (λ i within. refl)
      (λ s other. others_bring_none c (me_of r) s past bytes (subst IsNoChange (sym receives) silent) other))
      (inputs_enter c (me_of r) (desk_of c r.desk) later r.orderer.log r.orderer.log due past (Got (me_of r) bytes) runs.holds enters)

  -- such a message alone changes nothing
  pub begins : IsBeside c body → FitsEvent c (me_of r) (event_of c r past runs bytes) r.orderer (desk_of c r.desk) r.desk.waiting [] []
  begins beside = record {
    fits = enters;
    numbers = numbers_beside c (me_of r) r.desk.waiting r.orderer (desk_of c r.desk) past (Got (me_of r) bytes) runs.holds.of_log.fits.faults runs.holds.of_log.fits.own
        (record { here = refl; none = takes_none beside.views; sends = refl }) runs.numbers;
    said = said_on (me_of r) r.orderer.last_checkpoint past (Got (me_of r) bytes) runs.said;
    changes = changes_beside (desk_of c r.desk) [] beside.views beside.changes enters;
    meant = tt;
  }
    where
      enters : histories.BothFitWithinEvent c (me_of r) (event_of c r past runs bytes) (desk_of c r.desk) r.orderer.log [] []
      enters = inputs_fit c (me_of r) (desk_of c r.desk) (desk_of c r.desk) r.orderer.log r.orderer.log [] past bytes runs.holds (takes_none beside.views) (record {
        takes = others_drop c (me_of r) r.orderer.log past bytes runs.holds.of_log.fits (subst IsBesideLog (sym receives) beside.log);
        state = refl;
        snapshots = refl;
        waiting = rw (ap (option_and_then (call_in c)) receives ∙ beside.call) refl;
        transfer = refl;
        frames = λ frame h. inl h;
        due_is = sym (ap (replies_again r.desk.executed.state) receives ∙ beside.asks r.desk.executed.state);
      })

-- Such a dropped message changes nothing, and the replica owes nothing for it.
module _ (r : BothPartsData) (one : AreOne r.orderer r.desk) (bytes : List ℕ) (body : Body) (receives : heard r.orderer bytes ≡ Some body) where
  pub drops_beside : ((c : Configuration) → IsBeside c body)
      → ((c : Configuration) (past : List Entry) (runs : BothPartsMatchHistory c r past) → Gives c r.orderer → AnswersInput c (me_of r) past (Got (me_of r) bytes) [] runs.holds.of_desk.point r.desk.executed.state.number)
      → TakesBytes bytes r due_work.Nothing r []
  drops_beside beside answers = record {
    party = one_self r;
    begins = λ c past runs known. (
      record {
        is = runs.is_desk;
        fits = subst (λ (m : ℕ). FitsEvent c m (event_of c r past runs bytes) r.orderer (desk_of c r.desk) r.desk.waiting [] []) (sym one.0)
            (begins r one c past runs bytes body (heard_by r one c bytes body known receives) (beside c));
      },
      (
        rests c r past runs,
        runs.all,
        answers c past runs known,
        inl refl,
      ),
      runs.nothing_begins,
    );
  }

-- A stage that stands at a world has a run's trace, and the steps that reach it feed the trace.
use Rattle.std.proofs.Common.{◌≡◌, ℕ, ◌+◌, ◌<◌, ◌≤◌, true, List, [], ◌∷◌, ◌++◌, length, sym, ap, ◌∙◌, subst, arith}
use Rattle.std.specs.Prelude.{map, take, reverse, slice_get, Some}
use Rattle.std.proofs.lemmas.List.{take_all, take_more, map-append}
use Rattle.std.proofs.lemmas.Option.{slice_get_within, get_or_from_slice_get}
use Rattle.protocol.specs.System.Configuration.{Configuration, is_correct_replica, is_correct_client}
use Rattle.protocol.specs.System.Trace.{history_of}
use Rattle.protocol.specs.System.Schedule.{World, IsAllowed}
use Rattle.protocol.specs.System.Run.{IsRun}
use Rattle.protocol.specs.Client.RightClient.{IsClient}
use Rattle.protocol.specs.Replica.Owed.{IsReplica}
use Rattle.protocol.specs.Space.Linear.{points}
use Rattle.protocol.proofs.Points.Whole.{points_are_linear, runs_are_of_lives}
use Rattle.points.specs.PointView.{items_of}
use Rattle.schedule_text.specs.declared.step.Step.{Step}
use Rattle.schedule_text.specs.StepView.{step_of}
use Rattle.schedule_world.specs.declared.report.Report.{Report}
use Rattle.schedule_world.specs.declared.stage.StageClient.{StageClient}
use Rattle.schedule_world.specs.declared.stage.Stage.{Stage}
use Rattle.schedule_world.specs.Stages.{PartiesArePlaced, StageIsAt, StageIsAfterSteps, acceptance_of}
use Rattle.schedule_world.specs.Reporting.{IsReportOf}
use Rattle.schedule_world.specs.Reports.{ReportIsRight, StopsHere}
use Rattle.schedule_world.proofs.Attending.{are_replicas, replica_below}
use Rattle.schedule_world.proofs.Standing.{client_within, client_of}
use Rattle.schedule_world.proofs.Reached.{reaches_end}
use Rattle.schedule_world.proofs.Stopping.{only_these, parties_ascend}
use Rattle.schedule_world.proofs.Taking.{one_of_them}

module _ (c : Configuration) (s : Stage) (placed : PartiesArePlaced c s) (w : World) (st : StageIsAt c w s) where
  client : (k : ℕ) → is_correct_client c (256 + k) ≡ true → IsClient c (256 + k) (history_of (256 + k) w.past)
  client k h =
      let within = client_within c s k placed h in
      let d : StageClient = one_of_them s.stage_clients.items k within in
      subst (λ n. IsClient c (256 + n) (history_of (256 + k) w.past)) (placed.client_numbers k d within) (st.attend.clients k d h).0.right

  clients : (p : ℕ) → is_correct_client c p ≡ true → IsClient c p (history_of p w.past)
  clients p h =
      let k = client_of c p h in
      subst (λ q. IsClient c q (history_of q w.past)) (sym k.1) (client k.0 k.2)

  replicas : (p : ℕ) → is_correct_replica c p ≡ true → IsReplica c p (history_of p w.past)
  replicas p h =
      let below = replica_below c p h in
      let d = one_of_them s.replicas.items p (omega (arith, below, placed.replicas)) in
      are_replicas c w.past s.replicas.items s.stage_clients.items d (placed.replicas, placed.numbers) st.attend p h

  pub is_run : IsRun c w.past
  is_run = record {
    clients = clients;
    replicas = replicas;
    parties = st.orderly.parties;
    events = st.orderly.events;
  }

shown : (c : Configuration) (s : Stage) (w : World) (report : Report) → StageIsAt c w s → IsReportOf c s report → reverse report.trace.items ≡ w.past
shown c s w report st of = ap (λ v. reverse v.items) of.trace ∙ st.shows.past

pub tells : (c : Configuration) (steps : List Step) (s : Stage) (report : Report) → PartiesArePlaced c s → StageIsAfterSteps c (map step_of steps) [] s → IsReportOf c s report → ReportIsRight c steps report
tells c steps s report placed at of =
    let same : reverse report.trace.items ≡ at.world.past = shown c s at.world report at.stands of in
    let run : IsRun c at.world.past = is_run c s placed at.world at.stands in
    let are : items_of report.points.items ≡ points c at.world.past = of.points ∙ ap (points c) at.stands.shows.past in
    record {
      feeds = rw same (at.world, reaches_end c (map step_of steps) at.world at.reaches);
      run = rw same run;
      stopped = rw (same, of.stopped) (only_these c s placed at.world at.stands);
      ascend = rw of.stopped (parties_ascend c s placed.valid);
      accepted = rw same (ap (λ v. map acceptance_of v.items) of.accepted ∙ at.stands.shows.accepted);
      points = rw same are;
      linear = rw (same, are) (λ unforged apart. points_are_linear c placed.valid at.world.past (runs_are_of_lives c at.world.past run) unforged apart);
    }

pub stops_here : (c : Configuration) (steps : List Step) (n : ℕ) (s : Stage) (step : Step) (report : Report) → PartiesArePlaced c s → StageIsAfterSteps c (map step_of (take n steps)) [] s → slice_get steps n ≡ Some step
    → ((w : World) → StageIsAt c w s → IsAllowed c w (step_of step) → ⊥) → IsReportOf c s report → StopsHere c steps n report
stops_here c steps n s step report placed at is refused of =
    let same : reverse report.trace.items ≡ at.world.past = shown c s at.world report at.stands of in
    record {
      tells = tells c (take n steps) s report placed at of;
      world = at.world;
      goes = rw same (reaches_end c (map step_of (take n steps)) at.world at.reaches);
      step = step;
      is_step = is;
      refused = refused at.world at.stands;
    }

-- ---- the loop over the steps

pub one_step_more : (c : Configuration) (steps : List Step) (i : ℕ) (step : Step) (s : Stage) → slice_get steps i ≡ Some step → StageIsAfterSteps c (map step_of (take i steps) ++ step_of step ∷ []) [] s
    → StageIsAfterSteps c (map step_of (take (i + 1) steps)) [] s
one_step_more c steps i step s is at =
    let within : i < length steps = slice_get_within steps i step is in
    let more : take (i + 1) steps ≡ take i steps ++ step ∷ [] = take_more steps i step within ∙ ap (λ x. take i steps ++ x ∷ []) (get_or_from_slice_get steps i step step is) in
    subst (λ xs. StageIsAfterSteps c xs [] s) (sym (ap (map step_of) more ∙ map-append step_of (take i steps) (step ∷ []))) at

pub all_steps : (c : Configuration) (steps : List Step) (i : ℕ) (s : Stage) → length steps ≤ i → StageIsAfterSteps c (map step_of (take i steps)) [] s → StageIsAfterSteps c (map step_of steps) [] s
all_steps c steps i s all at = subst (λ xs. StageIsAfterSteps c (map step_of xs) [] s) (take_all i steps all) at

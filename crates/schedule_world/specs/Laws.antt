-- What the contract of a run refuses.
use Rattle.std.specs.Prelude.{◌≡◌, ℕ, true, List, [], ◌∷◌, map}
use Rattle.terms.specs.Parties.{client_party}
use Rattle.tuple_codec.specs.Operations.{Operation}
use Rattle.protocol.specs.System.Configuration.{Configuration, is_correct, is_correct_client}
use Rattle.protocol.specs.System.Schedule.Step.{calls, deliver}
use Rattle.schedule_text.specs.declared.step.Step.{Step}
use Rattle.schedule_text.specs.StepView.{step_of}
use Rattle.schedule_world.specs.declared.report.Report.{Report}
use Rattle.schedule_world.specs.Reports.{StopsHere, numbers_of}

-- A correct client calls, and then the first frame is delivered to a correct party. That step is not refused, if no
-- party stopped by the report of the call: the client sent its request.
abbrev pub FirstFrameMayCome : Type 0
FirstFrameMayCome =
    (c : Configuration) (steps : List Step) (k p : ℕ) (op : Operation) (before : Report)
    → is_correct_client c (client_party k) ≡ true → is_correct c p ≡ true → map step_of steps ≡ calls k op ∷ deliver 0 p
    ∷ []
    → numbers_of before.stopped ≡ [] → StopsHere c steps 1 before → ⊥

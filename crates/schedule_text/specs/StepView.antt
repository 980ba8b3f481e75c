-- The plain step that a Rust value stands for.
use Rattle.std.specs.Prelude.{map}
use Rattle.terms.specs.Parties.{party_number}
use Rattle.tuple_codec.specs.OperationView.{operation_of}
use Rattle.protocol.specs.System.Schedule as schedules
use Rattle.protocol.specs.System.Schedule.Step.{calls, deliver, feed, seal, sign, ticks, flush}
use Rattle.schedule_text.specs.declared.step.Step.{Step}
use Rattle.schedule_text.specs.declared.step.Step.TheVariants as steps

-- the step of the model that a step of the program stands for
abbrev pub step_of : Step → schedules.Step
step_of (steps.Invoke client op) = calls client.number (operation_of op)
step_of (steps.Deliver frame party) = deliver frame (party_number party)
step_of (steps.Feed party bytes) = feed (party_number party) bytes.items
step_of (steps.Seal sender receivers body) =
    seal (party_number sender) (map party_number receivers.items) body.items
step_of (steps.Sign signer leaf receivers body) =
    sign (party_number signer) leaf (map party_number receivers.items) body.items
step_of (steps.Tick party) = ticks (party_number party)
step_of steps.Flush = flush

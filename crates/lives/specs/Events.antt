-- The events of a machine: each is an input, with the outputs that the machine gave for it.
use Rattle.std.specs.Prelude.{ℕ, List, [], ◌∷◌, ◌++◌}
use Rattle.event_log.specs.Events.{event_bytes}

abbrev pub Event : Type 0
Event = List ℕ × List ℕ

-- an event as a log has it: the length of its input, its input, and its outputs
abbrev pub logged : Event → List ℕ
logged event = event_bytes event.0 ++ event.1

-- the outputs of these events, one after another
abbrev pub outputs_of : List Event → List ℕ
outputs_of [] = []
outputs_of (event ∷ events) = event.1 ++ outputs_of events

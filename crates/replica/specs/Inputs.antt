-- The entry with which an event of a replica begins.
use Rattle.std.specs.Prelude.{ℕ}
use Rattle.protocol.specs.System.Trace.{Entry}
use Rattle.protocol.specs.System.Trace.Entry.{Got, Tick}
use Rattle.replica.specs.declared.replica.Event.{Event}
use Rattle.replica.specs.declared.replica.Event.TheVariants as events

abbrev pub input_of : ℕ → Event → Entry
input_of me (events.Got bytes) = Got me bytes.now
input_of me events.Timeout = Tick me

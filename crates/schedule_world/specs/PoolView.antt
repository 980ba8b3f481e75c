-- The model of a pool.
use Rattle.std.specs.Prelude.{List, map}
use Rattle.terms.specs.Parties.{party_number}
use Rattle.schedule_world.specs.declared.pool.Made.{Made}
use Rattle.schedule_world.specs.declared.pool.Pool.TheInside.{Inside}
use Rattle.schedule_world.specs.Pooled.{Frame}

abbrev pub frame_in_pool : Made → Frame
frame_in_pool m = record { bytes = m.bytes; waiting = map party_number m.waiting.items }

abbrev pub frames_in_pool : Inside → List Frame
frames_in_pool p = map frame_in_pool p.frames.items

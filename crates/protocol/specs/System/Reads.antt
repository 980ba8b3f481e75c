-- The entries of read-only requests, which a replica answers outside the ordering (Castro and Liskov, TOCS 2002, on
-- read-only operations). Marks in the bytes tell them.
use Rattle.std.specs.Prelude.{Bool, false, not, List, filter}
use Rattle.wire.specs.Marks.{asks_read, answers_read}
use Rattle.protocol.specs.System.Trace.{Entry}
use Rattle.protocol.specs.System.Trace.Entry.{Got, Sent}

-- the entry receives a read-only request, or sends a reply to one
abbrev pub is_beside : Entry → Bool
is_beside (Got p bytes) = asks_read bytes
is_beside (Sent p bytes) = answers_read bytes
is_beside _ = false

-- any other entry belongs to the ordering
abbrev pub orders : Entry → Bool
orders e = not (is_beside e)

-- the entries of the ordering
abbrev pub without_reads : List Entry → List Entry
without_reads entries = filter orders entries

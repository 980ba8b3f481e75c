-- The marks of requests, of read-only requests and of replies to these: a byte or two of a frame. They tell these
-- frames from others before anything is decoded (Castro and Liskov, TOCS 2002, on read-only operations). Bytes that
-- spell no frame may have them too.
use Rattle.std.specs.Prelude.{ℕ, Bool, ◌&&◌, ◌==◌, List, slice_index}

-- Of a request: byte 4 is the type of requests.
abbrev pub has_type_of_requests : List ℕ → Bool
has_type_of_requests bytes = slice_index bytes 4 == 0x41

-- Of a read-only request: byte 15 is the read-only mode too.
abbrev pub asks_read : List ℕ → Bool
asks_read bytes = slice_index bytes 4 == 0x41 && slice_index bytes 15 == 0x01

-- Of a reply: byte 4 is the type of replies, and byte 17 the read-only mode.
abbrev pub answers_read : List ℕ → Bool
answers_read bytes = slice_index bytes 4 == 0x48 && slice_index bytes 17 == 0x01

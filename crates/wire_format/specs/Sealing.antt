-- Whether frames are longer than they may be.
use Rattle.std.specs.Prelude.{ℕ, ◌+◌, ◌<◌, ◌≤◌, length}
use Rattle.wire_format.specs.declared.messages.Body.{Body}
use Rattle.wire_format.specs.declared.frames.Frame.{Frame}
use Rattle.wire_format.specs.Views.{message_data}
use Rattle.wire_format.specs.Spelling.{piece, frame_limit}
use Rattle.wire_format.specs.Texts.{body_text, frame_text}

-- A frame of the body, with an authenticator of so many bytes, is not longer than it may be.
abbrev pub BodyFits : Body → ℕ → Type 0
BodyFits body authenticator_len =
    length (piece (body_text body)) + authenticator_len ≤ frame_limit (message_data body.message)

-- Such a frame is longer than it may be.
abbrev pub BodyExceeds : Body → ℕ → Type 0
BodyExceeds body authenticator_len =
    frame_limit (message_data body.message) < length (piece (body_text body)) + authenticator_len

-- The frame is not longer than it may be.
abbrev pub FrameFits : Frame → Type 0
FrameFits frame = length (frame_text frame) ≤ frame_limit (message_data frame.body.message)

-- The frame is longer than it may be.
abbrev pub FrameExceeds : Frame → Type 0
FrameExceeds frame = frame_limit (message_data frame.body.message) < length (frame_text frame)

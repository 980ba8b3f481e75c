-- The frames that a party seals for others.
use Rattle.std.specs.Prelude.{◌≡◌, ℕ, ◌<◌, ◌≤◌, false, IsTrue, List, length, map, nat_lt}
use Rattle.wire_format.specs.Lists.{ascends}
use Rattle.wire_format.specs.Messages.{BodyData, MacData, macs, FrameData}
use Rattle.wire_format.specs.Spelling.{IsBody, is_signed, body_spelling, frame_spelling, frame_limit}
use Rattle.authenticator.specs.Keys.{Keys, mac_between}

-- the entry of an authenticator for a party
abbrev pub entry_for : Keys → ℕ → List ℕ → ℕ → MacData
entry_for keys sender text party =
    record { receiver = party; mac = mac_between keys sender party text }

-- a body with its MACs for these parties
abbrev pub sealed_for : Keys → BodyData → List ℕ → FrameData
sealed_for keys body parties =
    record {
      body = body;
      authenticator = macs (map (entry_for keys body.sender (body_spelling body)) parties);
    }

-- A party may send the body with MACs, to 1 to 10 parties, which ascend.
pub record IsSealable (body : BodyData) (parties : List ℕ) : Type 0 where
  pub said : IsBody body
  pub unsigned : is_signed body.message ≡ false
  pub some : 1 ≤ length parties
  pub few : length parties ≤ 10
  pub ascend : IsTrue (ascends nat_lt parties)

pub record IsTooLong (frame : FrameData) : Type 0 where
  pub over : frame_limit frame.body.message < length (frame_spelling frame)

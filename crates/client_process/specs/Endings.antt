-- How a client's process ends.
use Rattle.std.specs.Prelude.{◌≡◌, ℕ, List, ◌++◌, Option, Result, MatchResult}
use Rattle.std.specs.Str.Lines.{lines}
use Rattle.std.specs.Io.KnownBytes.{Appends}
use Rattle.wire_format.specs.Lists.{Each}
use Rattle.protocol.specs.System.Configuration.{Configuration}
use Rattle.protocol.specs.System.Trace.{Entry}
use Rattle.party_runs.specs.Interleavings.{IsEventOf, trace_of}
use Rattle.records.specs.Records.{NoticeData, TellNotices, IsPartial}
use Rattle.client_process.specs.Clients.{IsPromptLife}
use Rattle.client_process.specs.Serving.{Ending, complete, unanswered, cut_short, idle, Serves}
use Rattle.client_process.specs.declared.fault.ConverseFault.{ConverseFault}
use Rattle.client_process.specs.declared.fault.ConverseFault.TheVariants.{NoMemory, Stopped, Unanswered, TooLarge, Read, Write}

-- For the lines of this script and a front of these records the client writes these texts, of records and of result
-- lines, up to this ending. Its history is one life of a correct client, above the timestamp start, which has not
-- stopped: it is safe, and does all that it owes. The records behind the front are unread. If the last call is
-- unanswered, there are none.
pub record Converses (c : Configuration) (me start : ℕ) (script records : List ℕ) (ending : Ending) (sent told : List ℕ)
    : Type 0 where
  pub events : List (List Entry)
  pub front : List ℕ
  pub left : List ℕ
  pub split : records ≡ front ++ left
  pub notices : List NoticeData
  pub said : TellNotices front notices
  pub none_left : ending ≡ unanswered → IsPartial left
  pub serves : Serves c me (idle 0) 1 (lines script) notices events sent told ending
  pub each : Each (IsEventOf me) events
  pub right : IsPromptLife c me start (trace_of events)

-- the bytes that the writers of records and of result lines have, if they are known
pub record Scene : Type 0 where
  pub sent : Option (List ℕ)
  pub told : Option (List ℕ)

abbrev pub scene : Option (List ℕ) → Option (List ℕ) → Scene
scene sent told = record { sent = sent; told = told }

abbrev pub scene_of : {F W : Type 0} → (F → Option (List ℕ)) → (W → Option (List ℕ)) → F → W → Scene
scene_of frames_in results_in frames results = scene (frames_in frames) (results_in results)

-- It converses up to this ending, and what it writes is appended.
pub record Writes (c : Configuration) (me start : ℕ) (script records : List ℕ) (ending : Ending) (old new : Scene)
    : Type 0 where
  pub sent : List ℕ
  pub told : List ℕ
  pub converses : Converses c me start script records ending sent told
  pub wrote_records : Appends old.sent new.sent sent
  pub wrote_results : Appends old.told new.told told

-- It converses up to some input, and a front of either text is appended.
pub record WritesFronts (c : Configuration) (me start : ℕ) (script records : List ℕ) (old new : Scene) : Type 0 where
  pub sent : List ℕ
  pub told : List ℕ
  pub unsent : List ℕ
  pub untold : List ℕ
  pub converses : Converses c me start script records cut_short (sent ++ unsent) (told ++ untold)
  pub wrote_records : Appends old.sent new.sent sent
  pub wrote_results : Appends old.told new.told told

-- At a fault it conversed up to some input, or to the end of the records while a call was open. Only if writing failed
-- may some of that not be written.
abbrev pub StopsBy : Configuration → ℕ → ℕ → ConverseFault → List ℕ → List ℕ → Scene → Scene → Type 0
StopsBy c me start NoMemory script records old new = Writes c me start script records cut_short old new
StopsBy c me start Stopped script records old new = Writes c me start script records cut_short old new
StopsBy c me start Unanswered script records old new = Writes c me start script records unanswered old new
StopsBy c me start TooLarge script records old new = Writes c me start script records cut_short old new
StopsBy c me start (Read error) script records old new = Writes c me start script records cut_short old new
StopsBy c me start (Write error) script records old new = WritesFronts c me start script records old new

-- It conversed over the whole script, or stopped.
abbrev pub EndsConversing : Configuration → ℕ → ℕ → Result (Unit {0}) ConverseFault → List ℕ → List ℕ → Scene → Scene
    → Type 0
EndsConversing c me start result script records old new =
    MatchResult result (λ _. Writes c me start script records complete old new)
    (λ fault. StopsBy c me start fault script records old new)

-- A replica as a process: what it does, and what it writes, for the records that it reads.
use Rattle.std.specs.Prelude.{ℕ, Bool, true, false, List, [], ◌∷◌, ◌++◌, Option, Some, None}
use Rattle.protocol.specs.System.Configuration.{Configuration}
use Rattle.protocol.specs.System.Trace.{Entry, AreOutputs}
use Rattle.protocol.specs.System.Trace.Entry.{Got, Tick, Sent}
use Rattle.events.specs.Outputs.{after_entries, receivers_in}
use Rattle.records.specs.Records.{NoticeData, came, timer_over, linked as links_told, frame_record, timer_record}
use Rattle.patience.specs.Moments.{Moment, linked, Begins, Ends}
use Rattle.patience.specs.declared.patience.Timer.{Timer}
use Rattle.patience.specs.declared.standing.Standing.{Standing}
use Rattle.patience.specs.Stands.{Stands}

-- ---- what is written for an event

-- the record of each frame that is sent, for exactly the parties for whom it is
abbrev pub frames_text : Configuration → ℕ → List Entry → List ℕ
frames_text c me [] = []
frames_text c me (Sent p bytes ∷ outputs) = frame_record (receivers_in c me bytes) bytes ++ frames_text c me outputs
frames_text c me (_ ∷ outputs) = frames_text c me outputs

-- the record of the timer that begins, if one does
abbrev pub timer_text : Option Timer → List ℕ
timer_text None = []
timer_text (Some timer) = timer_record timer.number timer.milliseconds

-- ---- timers

-- Behind this history the timer begins for which the replica's patience asks, if for one. past: the moments of its timers
-- before, and now: those behind it, the newest first.
pub record AsksFor (c : Configuration) (me : ℕ) (history : List Entry) (past : List Moment) (timer : Option Timer)
    (now : List Moment) : Type 0 where
  pub standing : Standing
  pub stands : Stands c me history standing
  pub begins : Begins past standing timer now

-- The timer of this number is over. gives: whether the replica gets a timeout, and over: the moments behind it.
pub record TimerEnds (c : Configuration) (me needed : ℕ) (history : List Entry) (past : List Moment) (number : ℕ)
    (gives : Bool) (over : List Moment) : Type 0 where
  pub standing : Standing
  pub stands : Stands c me history standing
  pub ends : Ends needed past number standing gives over

-- ---- a course

-- What a replica does for these notices, one after another, behind a history and the moments of its timers: the events
-- that it has, and the bytes that it writes. A frame that came is an event. So is a timer that is over if the replica
-- gets a timeout. Of links it takes note. Behind each event, and at the end of each timer, the next timer may begin.
pub data Serves (c : Configuration) (me needed : ℕ)
    : List Entry → List Moment → List NoticeData → List (List Entry) → List ℕ → Type 0 where
  ends : {history : List Entry} {past : List Moment} → Serves c me needed history past [] [] []
  takes : {history : List Entry} {past now : List Moment} {frame : List ℕ} {outputs : List Entry} {timer : Option Timer}
      {notices : List NoticeData} {events : List (List Entry)} {written : List ℕ}
      → AreOutputs outputs → AsksFor c me (after_entries outputs (Got me frame ∷ history)) past timer now
      → Serves c me needed (after_entries outputs (Got me frame ∷ history)) now notices events written
      → Serves c me needed history past (came frame ∷ notices) ((Got me frame ∷ outputs) ∷ events)
      ((frames_text c me outputs ++ timer_text timer) ++ written)
  times_out : {history : List Entry} {past over now : List Moment} {number : ℕ} {outputs : List Entry}
      {timer : Option Timer} {notices : List NoticeData} {events : List (List Entry)} {written : List ℕ}
      → TimerEnds c me needed history past number true over
      → AreOutputs outputs → AsksFor c me (after_entries outputs (Tick me ∷ history)) over timer now
      → Serves c me needed (after_entries outputs (Tick me ∷ history)) now notices events written
      → Serves c me needed history past (timer_over number ∷ notices) ((Tick me ∷ outputs) ∷ events)
      ((frames_text c me outputs ++ timer_text timer) ++ written)
  goes_on : {history : List Entry} {past over now : List Moment} {number : ℕ} {timer : Option Timer}
      {notices : List NoticeData} {events : List (List Entry)} {written : List ℕ}
      → TimerEnds c me needed history past number false over → AsksFor c me history over timer now
      → Serves c me needed history now notices events written
      → Serves c me needed history past (timer_over number ∷ notices) events (timer_text timer ++ written)
  notes : {history : List Entry} {past : List Moment} {count : ℕ} {notices : List NoticeData}
      {events : List (List Entry)} {written : List ℕ}
      → Serves c me needed history (linked count ∷ past) notices events written
      → Serves c me needed history past (links_told count ∷ notices) events written

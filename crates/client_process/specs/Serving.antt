-- A client as a process: what it does, and what it writes, for the lines and the records that it reads.
use Rattle.std.specs.Prelude.{◌≡◌, ◌≢◌, ℕ, ◌+◌, List, [], ◌∷◌, ◌++◌, codes, Option, Some, None}
use Rattle.terms.specs.Parties.{client_number}
use Rattle.tuple_codec.specs.Operations.{Operation, Outcome}
use Rattle.tuple_text.specs.Lines.{IsLine, IsSkipped}
use Rattle.tuple_text.specs.Faults.{RefusesLine}
use Rattle.tuple_text.specs.declared.faults.LineFault.{LineFault}
use Rattle.tuple_text.specs.declared.faults.LineFault.TheVariants.{NoMemory}
use Rattle.one_space.specs.Run.{result_line, refusal}
use Rattle.one_space.specs.Complaints.{refusal_line}
use Rattle.protocol.specs.System.Configuration.{Configuration}
use Rattle.protocol.specs.System.Trace.{Entry}
use Rattle.protocol.specs.System.Trace.Entry.{Invoke, Got, Tick, Sent, Accepted}
use Rattle.events.specs.Outputs.{receivers_in}
use Rattle.records.specs.Records.{NoticeData, came, timer_over, linked, frame_record, timer_record}
use Rattle.client_process.specs.Timers.{first_timer, next_timer}
use Rattle.client_process.specs.declared.timer.Timer.{Timer}

-- ---- what is written

-- the record of each frame that is sent, for exactly the parties for whom it is
abbrev pub frames_text : Configuration → ℕ → List Entry → List ℕ
frames_text c me [] = []
frames_text c me (Sent p bytes ∷ outputs) = frame_record (receivers_in c me bytes) bytes ++ frames_text c me outputs
frames_text c me (_ ∷ outputs) = frames_text c me outputs

abbrev pub timer_text : Timer → List ℕ
timer_text timer = timer_record timer.number timer.milliseconds

-- the line that tells of a refused one: its number, and why it is refused
abbrev pub refused_line : ℕ → LineFault → List ℕ
refused_line n fault = codes "! " ++ refusal_line (refusal n fault) ++ 10 ∷ []

-- the answer that is accepted among an event's outputs, if one is
abbrev pub accepted_in : List Entry → Option Outcome
accepted_in [] = None
accepted_in (Accepted client timestamp answer ∷ outputs) = Some answer
accepted_in (_ ∷ outputs) = accepted_in outputs

-- ---- a course

-- Between two inputs no call is open, and the last timer had this number. Or a call is open, and this timer runs.
pub data Turn : Type 0 where
  idle : (number : ℕ) → Turn
  waits : (timer : Timer) → Turn

-- A course ends behind the last line; or in an open call, behind the last notice; or it is cut short between two inputs.
pub data Ending : Type 0 where
  complete : Ending
  unanswered : Ending
  cut_short : Ending

-- What a client does for these lines, of which the first has number n, and these notices: the events that it has, and
-- what it writes, of records and of result lines. It takes a line only while no call is open, and a notice only while one
-- is. A line of an operation is a call. A frame that came is an event; if an answer is accepted in it, the call has this
-- result. So is the end of the call's timer. A refused line is told as such. A blank line or a comment calls nothing, and
-- has no result line.
pub data Serves (c : Configuration) (me : ℕ) : Turn → ℕ → List (List ℕ) → List NoticeData
    → List (List Entry) → List ℕ → List ℕ → Ending → Type 0 where
  ends : {number n : ℕ} → Serves c me (idle number) n [] [] [] [] [] complete
  waits_on : {timer : Timer} {n : ℕ} {lines : List (List ℕ)} → Serves c me (waits timer) n lines [] [] [] [] unanswered
  stops : {turn : Turn} {n : ℕ} {lines : List (List ℕ)} → Serves c me turn n lines [] [] [] [] cut_short
  skips : {number n : ℕ} {line : List ℕ} {lines : List (List ℕ)} {notices : List NoticeData}
      {events : List (List Entry)} {sent told : List ℕ} {ending : Ending}
      → IsSkipped line → Serves c me (idle number) (n + 1) lines notices events sent told ending
      → Serves c me (idle number) n (line ∷ lines) notices events sent told ending
  refuses : {number n : ℕ} {line : List ℕ} {lines : List (List ℕ)} {notices : List NoticeData}
      {events : List (List Entry)} {sent told : List ℕ} {ending : Ending} {fault : LineFault}
      → fault ≢ NoMemory → RefusesLine fault line
      → Serves c me (idle number) (n + 1) lines notices events sent told ending
      → Serves c me (idle number) n (line ∷ lines) notices events sent (refused_line n fault ++ told) ending
  calls : {number n : ℕ} {line : List ℕ} {lines : List (List ℕ)} {notices : List NoticeData} {op : Operation}
      {timestamp : ℕ} {outputs : List Entry} {events : List (List Entry)} {sent told : List ℕ} {ending : Ending}
      → IsLine op line
      → Serves c me (waits (first_timer number)) (n + 1) lines notices events sent told ending
      → Serves c me (idle number) n (line ∷ lines) notices
      ((Invoke (client_number me) timestamp op ∷ outputs) ∷ events)
      ((frames_text c me outputs ++ timer_text (first_timer number)) ++ sent) told ending
  takes : {timer : Timer} {n : ℕ} {lines : List (List ℕ)} {frame : List ℕ} {notices : List NoticeData}
      {outputs : List Entry} {events : List (List Entry)} {sent told : List ℕ} {ending : Ending}
      → accepted_in outputs ≡ None
      → Serves c me (waits timer) n lines notices events sent told ending
      → Serves c me (waits timer) n lines (came frame ∷ notices) ((Got me frame ∷ outputs) ∷ events)
      (frames_text c me outputs ++ sent) told ending
  accepts : {timer : Timer} {n : ℕ} {lines : List (List ℕ)} {frame : List ℕ} {notices : List NoticeData}
      {outputs : List Entry} {answer : Outcome} {events : List (List Entry)} {sent told : List ℕ} {ending : Ending}
      → accepted_in outputs ≡ Some answer
      → Serves c me (idle timer.number) n lines notices events sent told ending
      → Serves c me (waits timer) n lines (came frame ∷ notices) ((Got me frame ∷ outputs) ∷ events)
      (frames_text c me outputs ++ sent) (result_line answer ++ told) ending
  retries : {timer : Timer} {n : ℕ} {lines : List (List ℕ)} {notices : List NoticeData} {outputs : List Entry}
      {events : List (List Entry)} {sent told : List ℕ} {ending : Ending}
      → Serves c me (waits (next_timer timer)) n lines notices events sent told ending
      → Serves c me (waits timer) n lines (timer_over timer.number ∷ notices) ((Tick me ∷ outputs) ∷ events)
      ((frames_text c me outputs ++ timer_text (next_timer timer)) ++ sent) told ending
  is_late : {timer : Timer} {n number : ℕ} {lines : List (List ℕ)} {notices : List NoticeData}
      {events : List (List Entry)} {sent told : List ℕ} {ending : Ending} → number ≢ timer.number
      → Serves c me (waits timer) n lines notices events sent told ending
      → Serves c me (waits timer) n lines (timer_over number ∷ notices) events sent told ending
  notes : {timer : Timer} {n count : ℕ} {lines : List (List ℕ)} {notices : List NoticeData}
      {events : List (List Entry)} {sent told : List ℕ} {ending : Ending}
      → Serves c me (waits timer) n lines notices events sent told ending
      → Serves c me (waits timer) n lines (linked count ∷ notices) events sent told ending

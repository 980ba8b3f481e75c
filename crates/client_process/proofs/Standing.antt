-- A process between two inputs.
use Rattle.std.proofs.Common.{◌≡◌, ℕ, ◌+◌, Bool, true, false, MatchBool, List, [], ◌∷◌, ◌++◌, Option, None, Some, IfSome, Result, Ok, Err, IfOk, IfErr, OnOk, MatchResult, refl, sym, subst, ◌∙◌}
use Rattle.std.specs.Str.Lines.{lines}
use Rattle.std.specs.Io.BufRead.{DropsThrough, drop_through}
use Rattle.std.specs.Io.KnownBytes.{Appends}
use Rattle.tuple_codec.specs.Operations.{Operation}
use Rattle.tuple_text.specs.Lines.{IsLine, IsSkipped}
use Rattle.tuple_text.specs.declared.faults.LineFault.{LineFault}
use Rattle.one_space.specs.NextLines.{IsNextLine, IsCutLine, ReturnsLine, NextLineFails, ReadsLine, ReadsNext}
use Rattle.one_space.specs.declared.input.NextLine.{NextLine}
use Rattle.one_space.specs.declared.input.NoLine.{NoLine}
use Rattle.protocol.specs.System.Configuration.{Configuration}
use Rattle.protocol.specs.System.Trace.{Entry}
use Rattle.party_runs.specs.Interleavings.{trace_after}
use Rattle.records.specs.Records.{NoticeData, TellsNotice, TellsNothing, IsPartial, TakesRecord}
use Rattle.client_process.specs.Clients.{IsPromptLife}
use Rattle.client_process.specs.Serving.{cut_short, Turn, idle, waits, refused_line}
use Rattle.client_process.specs.Endings.{Scene, scene, Writes, StopsBy}
use Rattle.client_process.specs.Faults.{StopsBetween, IsWriteFault}
use Rattle.client_process.specs.Texts.{FrontIsWritten, FailsToWrite, WritesAll, Refuses, Holds, Advances, IsClear, TakesNotice, BeginsCall, turn_after, Opening, Stands, IsAt, BringsLine, HasStopped, HasEnded, ServesRecord}
use Rattle.client_process.specs.declared.timer.Timer.{Timer}
use Rattle.client_process.specs.declared.process.Process.{Process}
use Rattle.client_process.specs.declared.fault.ConverseFault.{ConverseFault}
use Rattle.client_process.specs.declared.fault.ConverseFault.TheVariants.{NoMemory, Stopped, Unanswered, TooLarge, Read, Write}
use Rattle.client_process.proofs.Writing.{none_left, all_left}
use Rattle.client_process.proofs.Stepping.{line_skipped, line_refused}
use Rattle.client_process.proofs.Courses.{begins, past_line, past_nothing, past_notice, moved, stops_here, fails_here, ends_here, waits_here}

-- what was said of known bytes, of those that are left
pub of_known : (P : List ℕ → Type 0) (known : Option (List ℕ)) (xs : List ℕ) → known ≡ Some xs → IfSome known P → P xs
of_known P known xs e h = subst (λ k. IfSome k P) e h

-- what an attempt to take a record says, if one was taken, and if none was left
module _ {E : Type 0} (result : Result Bool E) (more : Bool) (is : result ≡ Ok more) (known left : Option (List ℕ)) (kept : List ℕ) (said : IfSome known (λ xs. IfOk result (λ b. MatchBool b (TakesRecord xs left kept) (IsPartial xs × (kept ≡ []))))) where
  advanced : IfSome known (λ xs. MatchBool more (TakesRecord xs left kept) (IsPartial xs × (kept ≡ [])))
  advanced = subst (λ r. IfSome known (λ xs. IfOk r (λ b. MatchBool b (TakesRecord xs left kept) (IsPartial xs × (kept ≡ []))))) is said

  pub known_taken : more ≡ true → IfSome known (λ xs. TakesRecord xs left kept)
  known_taken e = subst (λ b. IfSome known (λ xs. MatchBool b (TakesRecord xs left kept) (IsPartial xs × (kept ≡ [])))) e advanced

  pub known_partial : more ≡ false → IfSome known (λ xs. IsPartial xs × (kept ≡ []))
  known_partial e = subst (λ b. IfSome known (λ xs. MatchBool b (TakesRecord xs left kept) (IsPartial xs × (kept ≡ [])))) e advanced

module _ {C : Type 0} (me : C → ℕ) (fits : C → Configuration → ℕ → List Entry → Type 0) (is_right : (client : C) (c : Configuration) (start : ℕ) (history : List Entry) → fits client c start history → IsPromptLife c (me client) start history) (o : Opening) where
  -- the history of a process is right
  right : (turn : Turn) (n : ℕ) (unread known : Option (List ℕ)) (now : Scene) (client : C) (unsent untold : List ℕ)
      (here : Stands me fits o turn n unread known now client unsent untold) → IsPromptLife o.c o.me o.above here.history
  right turn n unread known now client unsent untold here =
      subst (λ p. IsPromptLife o.c p o.above here.history) here.holds.me_is (is_right client o.c o.above here.history here.holds.held)

  -- ---- the next input

  pub line_taken : (before after : Turn) (n m : ℕ) (l : List ℕ) (unread rest known : Option (List ℕ)) (now : Scene) (old new : Process C)
      → BringsLine l unread rest → IsAt me fits o before n unread known now old
      → ((history : List Entry) → Holds me fits o.c o.above o.me history old.client → Advances me fits o.c o.above o.me history before after n m (l ∷ []) [] old new)
      → IsAt me fits o after m rest known now new
  line_taken before after n m l unread rest known now old new brings here step =
      let a = step here.history here.holds in
      record {
        history = trace_after here.history a.events;
        holds = a.holds;
        along = past_line o here.history before n unread known now old.text.items old.told.items here.along l rest brings after m a.events a.sent a.told new.text.items new.told.items
            a.each a.sends a.tells a.leads;
      }

  -- the record that was taken tells this
  pub notice_taken : (before after : Turn) (n : ℕ) (unread known left : Option (List ℕ)) (kept : List ℕ) (now : Scene) (old new : Process C) (notice : NoticeData)
      → IfSome known (λ xs. TakesRecord xs left kept) → TellsNotice kept notice → IsAt me fits o before n unread known now old
      → ((history : List Entry) → Holds me fits o.c o.above o.me history old.client → Advances me fits o.c o.above o.me history before after n n [] (notice ∷ []) old new)
      → IsAt me fits o after n unread left now new
  notice_taken before after n unread known left kept now old new notice taken told here step =
      let a = step here.history here.holds in
      record {
        history = trace_after here.history a.events;
        holds = a.holds;
        along = past_notice o here.history before n unread known now old.text.items old.told.items here.along left kept (of_known (λ xs. TakesRecord xs left kept) known here.along.rest here.along.known_is taken)
            notice told after a.events a.sent a.told new.text.items new.told.items a.each a.sends a.tells a.leads;
      }

  -- it tells nothing
  pub nothing_taken : (turn : Turn) (n : ℕ) (unread known left : Option (List ℕ)) (kept : List ℕ) (now : Scene) (client : C) (unsent untold : List ℕ)
      → IfSome known (λ xs. TakesRecord xs left kept) → TellsNothing kept → Stands me fits o turn n unread known now client unsent untold
      → Stands me fits o turn n unread left now client unsent untold
  nothing_taken turn n unread known left kept now client unsent untold taken nothing here = record {
    history = here.history;
    holds = here.holds;
    along = past_nothing o here.history turn n unread known now unsent untold here.along left kept (of_known (λ xs. TakesRecord xs left kept) known here.along.rest here.along.known_is taken) nothing;
  }

  -- ---- what is due is written

  pub frames_written : (turn : Turn) (n : ℕ) (unread known a b told : Option (List ℕ)) (client : C) (unsent still untold : List ℕ) → still ≡ []
      → Appends a b unsent → Stands me fits o turn n unread known (scene a told) client unsent untold
      → Stands me fits o turn n unread known (scene b told) client still untold
  frames_written turn n unread known a b told client unsent still untold none wrote here = record {
    history = here.history;
    holds = here.holds;
    along = moved o here.history turn n unread known (scene a told) unsent untold here.along (scene b told) still untold (none_left a b unsent still none wrote) (all_left told untold);
  }

  pub results_written : (turn : Turn) (n : ℕ) (unread known a b sent : Option (List ℕ)) (client : C) (unsent untold still : List ℕ) → still ≡ []
      → Appends a b untold → Stands me fits o turn n unread known (scene sent a) client unsent untold
      → Stands me fits o turn n unread known (scene sent b) client unsent still
  results_written turn n unread known a b sent client unsent untold still none wrote here = record {
    history = here.history;
    holds = here.holds;
    along = moved o here.history turn n unread known (scene sent a) unsent untold here.along (scene sent b) unsent still (all_left sent unsent) (none_left a b untold still none wrote);
  }

  -- ---- ends

  pub stops_between : (fault : ConverseFault) → StopsBetween fault → (turn : Turn) (n : ℕ) (unread known : Option (List ℕ)) (now : Scene) (client : C) (unsent untold : List ℕ)
      → unsent ≡ [] → untold ≡ [] → Stands me fits o turn n unread known now client unsent untold → HasStopped o fault now
  stops_between NoMemory h turn n unread known now client unsent untold e f here =
      stops_here o here.history turn n unread known now unsent untold here.along e f (right turn n unread known now client unsent untold here)
  stops_between Stopped h turn n unread known now client unsent untold e f here =
      stops_here o here.history turn n unread known now unsent untold here.along e f (right turn n unread known now client unsent untold here)
  stops_between Unanswered h turn n unread known now client unsent untold e f here = absurd h
  stops_between TooLarge h turn n unread known now client unsent untold e f here =
      stops_here o here.history turn n unread known now unsent untold here.along e f (right turn n unread known now client unsent untold here)
  stops_between (Read error) h turn n unread known now client unsent untold e f here =
      stops_here o here.history turn n unread known now unsent untold here.along e f (right turn n unread known now client unsent untold here)
  stops_between (Write error) h turn n unread known now client unsent untold e f here = absurd h

  -- a front of what is due was written
  failed : (fault : ConverseFault) → IsWriteFault fault → (turn : Turn) (n : ℕ) (unread known : Option (List ℕ)) (now later : Scene) (client : C) (unsent untold left_sent left_told : List ℕ)
      → FrontIsWritten now.sent later.sent unsent left_sent → FrontIsWritten now.told later.told untold left_told → Stands me fits o turn n unread known now client unsent untold
      → HasStopped o fault later
  failed NoMemory h turn n unread known now later client unsent untold left_sent left_told e f here = absurd h
  failed Stopped h turn n unread known now later client unsent untold left_sent left_told e f here = absurd h
  failed Unanswered h turn n unread known now later client unsent untold left_sent left_told e f here = absurd h
  failed TooLarge h turn n unread known now later client unsent untold left_sent left_told e f here = absurd h
  failed (Read error) h turn n unread known now later client unsent untold left_sent left_told e f here = absurd h
  failed (Write error) h turn n unread known now later client unsent untold left_sent left_told e f here =
      fails_here o here.history turn n unread known now unsent untold here.along later left_sent left_told e f (right turn n unread known now client unsent untold here)

  pub frames_failed : (fault : ConverseFault) (turn : Turn) (n : ℕ) (unread known a b told : Option (List ℕ)) (client : C) (unsent untold : List ℕ) → FailsToWrite a b unsent fault
      → Stands me fits o turn n unread known (scene a told) client unsent untold → HasStopped o fault (scene b told)
  frames_failed fault turn n unread known a b told client unsent untold fails here =
      failed fault fails.0 turn n unread known (scene a told) (scene b told) client unsent untold fails.1.0 untold fails.1.1 (all_left told untold) here

  pub results_failed : (fault : ConverseFault) (turn : Turn) (n : ℕ) (unread known a b sent : Option (List ℕ)) (client : C) (unsent untold : List ℕ) → FailsToWrite a b untold fault
      → Stands me fits o turn n unread known (scene sent a) client unsent untold → HasStopped o fault (scene sent b)
  results_failed fault turn n unread known a b sent client unsent untold fails here =
      failed fault fails.0 turn n unread known (scene sent a) (scene sent b) client unsent untold unsent fails.1.0 (all_left sent unsent) fails.1.1 here

  -- All result lines were written and none is left, or writing failed.
  pub results_settled : (result : Result (Unit {0}) ConverseFault) (turn : Turn) (n : ℕ) (unread known a b sent : Option (List ℕ)) (client : C) (unsent untold still : List ℕ)
      → WritesAll result a b untold → OnOk result (still ≡ []) → Stands me fits o turn n unread known (scene sent a) client unsent untold
      → MatchResult result (λ _. Stands me fits o turn n unread known (scene sent b) client unsent still) (λ fault. HasStopped o fault (scene sent b))
  results_settled (Ok done) turn n unread known a b sent client unsent untold still wrote none here =
      results_written turn n unread known a b sent client unsent untold still none wrote here
  results_settled (Err fault) turn n unread known a b sent client unsent untold still fails none here =
      results_failed fault turn n unread known a b sent client unsent untold fails here

  -- The call stays open if the record didn't answer it, and it ended if it did.
  pub still_open : (field : Bool) → field ≡ false → (timer : Timer) (n : ℕ) (unread known : Option (List ℕ)) (now : Scene) (client : C) (unsent untold : List ℕ)
      → Stands me fits o (turn_after field timer) n unread known now client unsent untold → Stands me fits o (waits timer) n unread known now client unsent untold
  still_open field is timer n unread known now client unsent untold here =
      subst (λ b. Stands me fits o (turn_after b timer) n unread known now client unsent untold) is here

  pub is_over : (field : Bool) → field ≡ true → (timer : Timer) (n : ℕ) (unread known : Option (List ℕ)) (now : Scene) (client : C) (unsent untold : List ℕ)
      → Stands me fits o (turn_after field timer) n unread known now client unsent untold → Stands me fits o (idle timer.number) n unread known now client unsent untold
  is_over field is timer n unread known now client unsent untold here =
      subst (λ b. Stands me fits o (turn_after b timer) n unread known now client unsent untold) is here

  -- no record is left
  pub unanswered_here : (timer : Timer) (n : ℕ) (unread known : Option (List ℕ)) (now : Scene) (client : C) (unsent untold kept : List ℕ) → IfSome known (λ xs. IsPartial xs × (kept ≡ [])) → unsent ≡ [] → untold ≡ []
      → Stands me fits o (waits timer) n unread known now client unsent untold → HasStopped o Unanswered now
  unanswered_here timer n unread known now client unsent untold kept partial e f here =
      waits_here o here.history timer n unread known now unsent untold here.along (of_known (λ xs. IsPartial xs × (kept ≡ [])) known here.along.rest here.along.known_is partial).0 e f
      (right (waits timer) n unread known now client unsent untold here)

  -- no line is left
  pub ended_here : (number n : ℕ) (unread known : Option (List ℕ)) (now : Scene) (client : C) (unsent untold : List ℕ) → unsent ≡ [] → untold ≡ []
      → (here : Stands me fits o (idle number) n unread known now client unsent untold) → lines here.along.script ≡ [] → HasEnded o now
  ended_here number n unread known now client unsent untold e f here none =
      ends_here o here.history number n unread known now unsent untold here.along none e f (right (idle number) n unread known now client unsent untold here)

  -- ---- one record, and what comes of it

  -- What the record tells was taken, or the process stopped.
  pub taken_on : (result : Result Bool ConverseFault) (n : ℕ) (unread known left : Option (List ℕ)) (kept : List ℕ) (now : Scene) (old new : Process C) (notice : NoticeData)
      → IfSome known (λ xs. TakesRecord xs left kept) → TellsNotice kept notice → IsClear old → IsAt me fits o (waits old.timer) n unread known now old
      → IfOk result (λ answered. TakesNotice me fits notice answered old new) → IfErr result StopsBetween → ServesRecord me fits result o n unread left now new
  taken_on (Ok answered) n unread known left kept now old new notice taken told clear here takes err =
      notice_taken (waits old.timer) (turn_after answered new.timer) n unread known left kept now old new notice taken told here (λ history holds. takes o.c o.above o.me n history holds)
  taken_on (Err fault) n unread known left kept now old new notice taken told clear here takes err =
      stops_between fault err (waits old.timer) n unread known now old.client old.text.items old.told.items clear.0 clear.1 here

  -- The call of a line began.
  pub called_on : (op : Operation) (n : ℕ) (l : List ℕ) (unread rest known : Option (List ℕ)) (now : Scene) (old new : Process C) → BringsLine l unread rest → IsLine op l
      → IsAt me fits o (idle old.timer.number) n unread known now old → BeginsCall me fits op old new → IsAt me fits o (waits new.timer) (n + 1) rest known now new
  called_on op n l unread rest known now old new brings is_line here begins =
      line_taken (idle old.timer.number) (waits new.timer) n (n + 1) l unread rest known now old new brings here (λ history holds. begins o.c o.above o.me n history l is_line holds)

  -- ---- one line, and what comes of it

  -- The line was skipped.
  pub skipped_on : (n : ℕ) (l : List ℕ) (unread rest known : Option (List ℕ)) (now : Scene) (old new : Process C) → BringsLine l unread rest → IsSkipped l
      → new.client ≡ old.client → new.timer ≡ old.timer → new.text.items ≡ old.text.items → new.told.items ≡ old.told.items
      → IsAt me fits o (idle old.timer.number) n unread known now old → IsAt me fits o (idle new.timer.number) (n + 1) rest known now new
  skipped_on n l unread rest known now old new brings skipped client timer text told here =
      line_taken (idle old.timer.number) (idle new.timer.number) n (n + 1) l unread rest known now old new brings here
      (λ history holds. line_skipped me fits is_right old new l skipped client timer text told o.c o.above o.me n history holds)

  -- The line was refused, and told as such.
  pub refused_on : (fault : LineFault) (n : ℕ) (l : List ℕ) (unread rest known : Option (List ℕ)) (now : Scene) (old new : Process C) → BringsLine l unread rest → Refuses fault l
      → new.client ≡ old.client → new.timer ≡ old.timer → new.text.items ≡ old.text.items → new.told.items ≡ old.told.items ++ refused_line n fault
      → IsAt me fits o (idle old.timer.number) n unread known now old → IsAt me fits o (idle new.timer.number) (n + 1) rest known now new
  refused_on fault n l unread rest known now old new brings refuses client timer text told here =
      line_taken (idle old.timer.number) (idle new.timer.number) n (n + 1) l unread rest known now old new brings here
      (λ history holds. line_refused me fits is_right old new fault l refuses client timer text n told o.c o.above o.me history holds)

  -- The rest of the line was passed.
  pub rest_is : (turn : Turn) (n : ℕ) (known : Option (List ℕ)) (now : Scene) (client : C) (unsent untold : List ℕ) (before after : Option (List ℕ)) → after ≡ before
      → Stands me fits o turn n before known now client unsent untold → Stands me fits o turn n after known now client unsent untold
  rest_is turn n known now client unsent untold before after e here = subst (λ k. Stands me fits o turn n k known now client unsent untold) (sym e) here

-- ---- the next line

-- What reading it says of the bytes that are left.
module _ {A : Type 0} (result : Result (NextLine A) NoLine) (unread rest : Option (List ℕ)) (buffer : List ℕ) (reads : ReadsNext result unread rest buffer) (script : List ℕ) (unread_is : unread ≡ Some script) where
  read_line : ReadsLine result script rest buffer
  read_line = of_known (λ xs. ReadsLine result xs rest buffer) unread script unread_is reads

  pub gives_line : (field given : NextLine A) → result ≡ Ok field → field ≡ given → ReturnsLine given script rest
  gives_line field given e f =
      subst (λ y. ReturnsLine y script rest) f (subst (λ r. MatchResult r (λ y. ReturnsLine y script rest) (λ why. NextLineFails why script rest buffer)) e read_line)

  pub fails_line : (why : NoLine) → result ≡ Err why → NextLineFails why script rest buffer
  fails_line why e = subst (λ r. MatchResult r (λ y. ReturnsLine y script rest) (λ y. NextLineFails y script rest buffer)) e read_line

-- the rest of a line that was refused by its first bytes
pub cut_line : (l xs : List ℕ) (left : Option (List ℕ)) (cut : IsCutLine l xs left) → IsNextLine l xs (Some (drop_through 10 cut.rest))
cut_line l xs left cut = record { rest = drop_through 10 cut.rest; split = cut.split; left_is = refl }

-- it was passed
pub rest_passed : (l xs : List ℕ) (left after : Option (List ℕ)) (cut : IsCutLine l xs left) → DropsThrough left after 10 → after ≡ Some (drop_through 10 cut.rest)
rest_passed l xs left after cut drops = subst (λ k. DropsThrough k after 10) cut.left_is drops

-- ---- what a test of a result tells

pub if_true : (A B : Type 0) (more : Bool) → more ≡ true → MatchBool more A B → A
if_true A B more is h = subst (λ b. MatchBool b A B) is h

pub if_false : (A B : Type 0) (more : Bool) → more ≡ false → MatchBool more A B → B
if_false A B more is h = subst (λ b. MatchBool b A B) is h

-- No result line is due, unless the call was answered.
pub still_quiet : {E : Type 0} (result : Result Bool E) (told before : List ℕ) → before ≡ [] → IfOk result (λ answered. answered ≡ false → told ≡ before)
    → IfOk result (λ answered. answered ≡ false → told ≡ [])
still_quiet (Ok answered) told before none kept = λ is. kept is ∙ none
still_quiet (Err fault) told before none kept = tt

-- ---- the beginning

-- What holds of bytes that are known holds if they are.
pub if_known : (P : List ℕ → Type 0) (known : Option (List ℕ)) → ((bytes : List ℕ) → known ≡ Some bytes → P bytes) → IfSome known P
if_known P None h = tt
if_known P (Some bytes) h = h bytes refl

-- Nothing is read yet.
pub at_start : {C : Type 0} (me : C → ℕ) (fits : C → Configuration → ℕ → List Entry → Type 0) (o : Opening) (unread known : Option (List ℕ)) (process : Process C)
    → Holds me fits o.c o.above o.me [] process.client → IsClear process → unread ≡ Some o.script → known ≡ Some o.records
    → IsAt me fits o (idle 0) 1 unread known o.start process
at_start me fits o unread known process holds clear unread_is known_is = record {
  history = [];
  holds = holds;
  along = begins o unread known process.text.items process.told.items unread_is known_is clear.0 clear.1;
}

-- What is written up to some input is all that there is if it stopped between two inputs.
stops_by : (c : Configuration) (me start : ℕ) (fault : ConverseFault) → StopsBetween fault → (script records : List ℕ) (old new : Scene)
    → Writes c me start script records cut_short old new → StopsBy c me start fault script records old new
stops_by c me start NoMemory h script records old new writes = writes
stops_by c me start Stopped h script records old new writes = writes
stops_by c me start Unanswered h script records old new writes = absurd h
stops_by c me start TooLarge h script records old new writes = writes
stops_by c me start (Read error) h script records old new writes = writes
stops_by c me start (Write error) h script records old new writes = absurd h

-- It stopped before anything was read.
pub not_begun : {C : Type 0} (me : C → ℕ) (fits : C → Configuration → ℕ → List Entry → Type 0)
    (is_right : (client : C) (c : Configuration) (start : ℕ) (history : List Entry) → fits client c start history → IsPromptLife c (me client) start history)
    (c : Configuration) (start : ℕ) (fault : ConverseFault) → StopsBetween fault → (client : C) → fits client c start [] → (script records : Option (List ℕ)) (at : Scene)
    → IfSome script (λ text. IfSome records (λ bytes. StopsBy c (me client) start fault text bytes at at))
not_begun me fits is_right c start fault h client held script records at =
    if_known (λ text. IfSome records (λ bytes. StopsBy c (me client) start fault text bytes at at)) script
    (λ text is. if_known (λ bytes. StopsBy c (me client) start fault text bytes at at) records
    (λ bytes is_too. stops_by c (me client) start fault h text bytes at at (none_read text bytes)))
  where
    none_read : (text bytes : List ℕ) → Writes c (me client) start text bytes cut_short at at
    none_read text bytes =
        let o : Opening = record { c = c; me = me client; above = start; script = text; records = bytes; start = at } in
        stops_here o [] (idle 0) 1 (Some text) (Some bytes) at [] [] (begins o (Some text) (Some bytes) [] [] refl refl refl refl) refl refl
        (is_right client c start [] held)

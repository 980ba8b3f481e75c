-- A process at one of the records that it reads.
use Rattle.std.proofs.Common.{◌≡◌, ℕ, Bool, true, false, List, [], ◌++◌, Option, Some, None, IfSome, Result, Ok, Err, IfOk, MatchBool, refl, sym, ap, subst, ◌∙◌, append_assoc, append-nil}
use Rattle.std.specs.Io.KnownBytes.{Appends}
use Rattle.std.proofs.KnownBytes.{Appends-nil, Appends-trans}
use Rattle.protocol.specs.System.Configuration.{Configuration}
use Rattle.protocol.specs.System.Trace.{Entry}
use Rattle.protocol.specs.Replica.Owed.{IsPromptReplica}
use Rattle.records.specs.Records.{NoticeData, TellsNotice, TellsNothing, ends as bytes_end, IsPartial, TakesRecord}
use Rattle.patience.specs.PatienceView.{Fits}
use Rattle.party_runs.specs.Interleavings.{trace_after}
use Rattle.replica_process.specs.Serving.{ends}
use Rattle.replica_process.specs.Endings.{ServesBytes, Writes, WritesForFront, WritesFront, StopsBy, EndsServing}
use Rattle.replica_process.specs.Texts.{Holds, TakesNotice, IsAt, HasServed, HasStopped, FrontIsWritten, FailsToWrite, WritesAll, IsWriteFault}
use Rattle.replica_process.specs.declared.fault.ServeFault.{ServeFault}
use Rattle.replica_process.specs.declared.fault.ServeFault.TheVariants.{NoMemory, TooLarge, Read, Write}
use Rattle.replica_process.specs.declared.process.Process.{Process}
use Rattle.replica_process.proofs.Writing.{all_left}
use Rattle.replica_process.proofs.Noticing.{is_right}
use Rattle.replica_process.proofs.Courses.{none_partial, begins, past_nothing, past_notice, moved, all_served, stopped_here, failed_here}

-- ---- what a test of a result tells

pub if_true : (A B : Type 0) (more : Bool) → more ≡ true → MatchBool more A B → A
if_true A B more is h = subst (λ b. MatchBool b A B) is h

pub if_false : (A B : Type 0) (more : Bool) → more ≡ false → MatchBool more A B → B
if_false A B more is h = subst (λ b. MatchBool b A B) is h

-- What holds of bytes that are known holds if they are.
pub if_known : (P : List ℕ → Type 0) (known : Option (List ℕ)) → ((bytes : List ℕ) → known ≡ Some bytes → P bytes) → IfSome known P
if_known P None h = tt
if_known P (Some bytes) h = h bytes refl

-- ---- at a record

-- right: the law of the machine
module _ {M : Type 0} (me : M → ℕ) (fits : M → Configuration → List Entry → Type 0) (right : (machine : M) (c : Configuration) (history : List Entry) → fits machine c history → IsPromptReplica c (me machine) history) (c : Configuration) (p needed : ℕ) (bytes : List ℕ) where
  -- Nothing is read yet.
  pub at_start : (written known : Option (List ℕ)) (process : Process M) → Holds me fits c p needed [] [] process
      → process.text.items ≡ [] → known ≡ Some bytes → IsAt me fits c p needed bytes written known written process
  at_start written known process holds none known_is = record {
    history = [];
    past = [];
    holds = holds;
    along = begins c p needed bytes known written process.text.items known_is none;
  }

  module _ (start known written : Option (List ℕ)) (process : Process M) (here : IsAt me fits c p needed bytes start known written process) where
    prompt : IsPromptReplica c p here.history
    prompt = is_right me fits right c p needed here.history here.past process here.holds

    -- ---- the text

    -- Some of the text was written.
    pub moves : (later : Option (List ℕ)) (new : Process M) → new.machine ≡ process.machine → new.patience ≡ process.patience
        → FrontIsWritten written later process.text.items new.text.items → IsAt me fits c p needed bytes start known later new
    moves later new same_machine same_patience wrote = record {
      history = here.history;
      past = here.past;
      holds = record {
        me_is = ap me same_machine ∙ here.holds.me_is;
        needed_is = ap (λ q. q.needed) same_patience ∙ here.holds.needed_is;
        held = subst (λ m. fits m c here.history) (sym same_machine) here.holds.held;
        patient = subst (λ q. Fits q here.past) (sym same_patience) here.holds.patient;
      };
      along = moved c p needed bytes known start written here.history here.past process.text.items here.along later new.text.items wrote;
    }

    -- Writing failed.
    pub write_failed : (later : Option (List ℕ)) (pending : List ℕ) (fault : ServeFault) → FailsToWrite written later process.text.items fault
        → HasStopped c p needed fault bytes start later pending
    write_failed later pending NoMemory h = absurd h.0
    write_failed later pending TooLarge h = absurd h.0
    write_failed later pending (Read error) h = absurd h.0
    write_failed later pending (Write error) h =
        failed_here c p needed bytes known start written here.history here.past process.text.items here.along prompt later h.1.0 h.1.1

    -- ---- the next record

    -- It stops, and the text is as it was.
    pub stops : (fault : ServeFault) (pending : List ℕ) → pending ≡ process.text.items → HasStopped c p needed fault bytes start written pending
    stops fault pending e = subst (λ l. HasStopped c p needed fault bytes start written l) (sym e) (at fault)
      where
        so : (front left : List ℕ) × (bytes ≡ front ++ left) × HasServed c p needed front start written process.text.items
        so = stopped_here c p needed bytes known start written here.history here.past process.text.items here.along prompt

        at : (fault : ServeFault) → HasStopped c p needed fault bytes start written process.text.items
        at NoMemory = so
        at TooLarge = so
        at (Read error) = so
        at (Write error) =
            failed_here c p needed bytes known start written here.history here.past process.text.items here.along prompt written
            process.text.items (all_left written process.text.items)

    -- what an attempt to take a record says of the bytes that are left
    advanced : {E : Type 0} (left : Option (List ℕ)) (kept : List ℕ) (result : Result Bool E) (more : Bool) → result ≡ Ok more
        → IfSome known (λ xs. IfOk result (λ b. MatchBool b (TakesRecord xs left kept) (IsPartial xs × (kept ≡ []))))
        → MatchBool more (TakesRecord here.along.rest left kept) (IsPartial here.along.rest × (kept ≡ []))
    advanced left kept result more is said =
        subst (λ r. IfOk r (λ b. MatchBool b (TakesRecord here.along.rest left kept) (IsPartial here.along.rest × (kept ≡ [])))) is
        (subst (λ o. IfSome o (λ xs. IfOk result (λ b. MatchBool b (TakesRecord xs left kept) (IsPartial xs × (kept ≡ []))))) here.along.known_is said)

    pub took : {E : Type 0} (left : Option (List ℕ)) (kept : List ℕ) (result : Result Bool E) (more : Bool) → result ≡ Ok more → more ≡ true
        → IfSome known (λ xs. IfOk result (λ b. MatchBool b (TakesRecord xs left kept) (IsPartial xs × (kept ≡ []))))
        → TakesRecord here.along.rest left kept
    took left kept result more is e said = if_true _ _ more e (advanced left kept result more is said)

    pub took_none : {E : Type 0} (left : Option (List ℕ)) (kept : List ℕ) (result : Result Bool E) (more : Bool) → result ≡ Ok more → more ≡ false
        → IfSome known (λ xs. IfOk result (λ b. MatchBool b (TakesRecord xs left kept) (IsPartial xs × (kept ≡ []))))
        → IsPartial here.along.rest
    took_none left kept result more is e said = (if_false _ _ more e (advanced left kept result more is said)).0

    -- There is none.
    pub ends_here : IsPartial here.along.rest → HasServed c p needed bytes start written process.text.items
    ends_here partial =
        all_served c p needed bytes known start written here.history here.past process.text.items here.along partial prompt

    module _ (left : Option (List ℕ)) (kept : List ℕ) (taken : TakesRecord here.along.rest left kept) where
      -- It tells nothing.
      pub passes_on : TellsNothing kept → IsAt me fits c p needed bytes start left written process
      passes_on nothing = record {
        history = here.history;
        past = here.past;
        holds = here.holds;
        along = past_nothing c p needed bytes known start written here.history here.past process.text.items here.along left kept taken nothing;
      }

      -- It tells this notice, which was taken.
      pub takes_on : (notice : NoticeData) → TellsNotice kept notice → (new : Process M)
          → TakesNotice me fits c p needed here.history here.past notice process new → IsAt me fits c p needed bytes start left written new
      takes_on notice tells_so new takes = record {
        history = trace_after here.history takes.events;
        past = takes.now;
        holds = takes.holds;
        along = past_notice c p needed bytes known start written here.history here.past process.text.items here.along left kept taken
            notice tells_so takes.events takes.now takes.added new.text.items takes.each takes.text takes.leads;
      }

-- ---- the end

module _ (c : Configuration) (p needed : ℕ) (bytes : List ℕ) (start written later : Option (List ℕ)) (pending : List ℕ) where
  -- A front is served, and writing failed behind a front of the rest of the text.
  fails : (front left : List ℕ) → bytes ≡ front ++ left → HasServed c p needed front start written pending
      → (error : ServeFault) → FailsToWrite written later pending error → WritesFront c p needed bytes start later
  fails front left split served error wrote =
      let some = wrote.1.1 in (
        front,
        left,
        served.0,
        served.1 ++ some.front,
        wrote.1.0,
        split,
        subst (λ t. ServesBytes c p needed front served.0 t)
            (ap (λ l. served.1 ++ l) (sym some.split) ∙ sym (append_assoc served.1 some.front wrote.1.0)) served.2,
        Appends-trans start written later served.1 some.front served.3 some.wrote,
      )

  wrote_rest : (front : List ℕ) → HasServed c p needed front start written pending → Appends written later pending
      → Writes c p needed front start later
  wrote_rest front served wrote =
      (served.0, served.1 ++ pending, served.2, Appends-trans start written later served.1 pending served.3 wrote)

  by_failing : (front left : List ℕ) → bytes ≡ front ++ left → HasServed c p needed front start written pending
      → (error : ServeFault) → FailsToWrite written later pending error → StopsBy c p needed error bytes start later
  by_failing front left split served NoMemory wrote = absurd wrote.0
  by_failing front left split served TooLarge wrote = absurd wrote.0
  by_failing front left split served (Read error) wrote = absurd wrote.0
  by_failing front left split served (Write error) wrote = fails front left split served (Write error) wrote

  -- All is served, and the rest of the text was written, or that failed.
  pub ends_all : (result : Result (Unit {0}) ServeFault) → HasServed c p needed bytes start written pending
      → WritesAll result written later pending → EndsServing c p needed result bytes start later
  ends_all (Ok done) served wrote = wrote_rest bytes served wrote
  ends_all (Err error) served wrote = by_failing bytes [] (sym (append-nil bytes)) served error wrote

  -- It stopped, since writing failed.
  pub stopped_writing : (fault : ServeFault) → IsWriteFault fault → HasStopped c p needed fault bytes start written pending
      → StopsBy c p needed fault bytes start written
  stopped_writing NoMemory is stopped = absurd is
  stopped_writing TooLarge is stopped = absurd is
  stopped_writing (Read error) is stopped = absurd is
  stopped_writing (Write error) is stopped = stopped

  -- It stopped at a fault that is none of writing, and the rest of the text was written.
  pub stopped_all : (fault : ServeFault) → (IsWriteFault fault → ⊥) → HasStopped c p needed fault bytes start written pending
      → Appends written later pending → StopsBy c p needed fault bytes start later
  stopped_all NoMemory other stopped wrote = (stopped.0, stopped.1, stopped.2, wrote_rest stopped.0 stopped.3 wrote)
  stopped_all TooLarge other stopped wrote = (stopped.0, stopped.1, stopped.2, wrote_rest stopped.0 stopped.3 wrote)
  stopped_all (Read error) other stopped wrote = (stopped.0, stopped.1, stopped.2, wrote_rest stopped.0 stopped.3 wrote)
  stopped_all (Write error) other stopped wrote = absurd (other tt)

  -- Then writing failed.
  pub stopped_failed : (fault : ServeFault) → (IsWriteFault fault → ⊥) → HasStopped c p needed fault bytes start written pending
      → (error : ServeFault) → FailsToWrite written later pending error → StopsBy c p needed error bytes start later
  stopped_failed NoMemory other stopped error wrote = by_failing stopped.0 stopped.1 stopped.2 stopped.3 error wrote
  stopped_failed TooLarge other stopped error wrote = by_failing stopped.0 stopped.1 stopped.2 stopped.3 error wrote
  stopped_failed (Read fault) other stopped error wrote = by_failing stopped.0 stopped.1 stopped.2 stopped.3 error wrote
  stopped_failed (Write fault) other stopped error wrote = absurd (other tt)

-- Nothing was served or written.
pub not_begun : (c : Configuration) (p needed : ℕ) (bytes : List ℕ) (known : Option (List ℕ)) → IsPromptReplica c p []
    → WritesForFront c p needed bytes known known
not_begun c p needed bytes known right =
    ([], bytes, refl, ([], [], record { notices = []; told = bytes_end none_partial; serves = ends; each = tt; right = right }, Appends-nil known))

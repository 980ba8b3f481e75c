-- The timers of a replica, by all that happened to them: a list of moments, the newest first.
use Rattle.std.specs.Prelude.{◌≡◌, ℕ, suc, ◌*◌, ◌/◌, ◌%◌, ◌^◌, min, max, nat_le, Bool, true, false, List, [], ◌∷◌, Option, Some, None, is_some, IsSome, ◌⊎◌}
use Rattle.patience.specs.Standings.{wait_of, may_sign}
use Rattle.patience.specs.declared.patience.TheConstants.{FIRST, LONGEST, DOUBLES_AFTER}
use Rattle.patience.specs.declared.patience.Timer.{Timer}
use Rattle.patience.specs.declared.standing.Standing.{Standing}
use Rattle.patience.specs.declared.standing.Wait.{Wait}
use Rattle.patience.specs.declared.standing.Wait.TheVariants.{View as ViewWait}
use Rattle.terms.specs.declared.order.View.{View}

-- A timer began, which watches this. Or it was over: then the replica got a timeout, which may cost it a signature, if
-- it still waited for that; or it was spared, since too few others were linked; or it waited for that no more. Or the
-- timer ended early, since the replica followed others out of its view, or to a later one than it waited for; or since
-- it entered the view that it waited for. Or the replica was told how many others are linked.
pub data Moment : Type 0 where
  began : (wait : Wait) → Moment
  timed_out : (may_sign : Bool) → Moment
  spared : Moment
  followed : Moment
  entered : Moment
  moved : Moment
  linked : (count : ℕ) → Moment

-- ---- what a past says

-- The number of the last timer: how many began.
abbrev pub last_number : List Moment → ℕ
last_number [] = 0
last_number (began wait ∷ past) = suc (last_number past) % 2 ^ 64
last_number (_ ∷ past) = last_number past

-- what the running timer watches
abbrev pub watched : List Moment → Option Wait
watched [] = None
watched (began wait ∷ past) = Some wait
watched (linked count ∷ past) = watched past
watched (_ ∷ past) = None

-- At least so many others are linked, or the replica was told nothing of links.
abbrev pub is_linked : ℕ → List Moment → Bool
is_linked needed [] = true
is_linked needed (linked count ∷ past) = nat_le needed count
is_linked needed (_ ∷ past) = is_linked needed past

-- how many timeouts there were that may have cost a signature
abbrev pub costly : List Moment → ℕ
costly [] = 0
costly (timed_out true ∷ past) = suc (costly past)
costly (_ ∷ past) = costly past

-- the fewest milliseconds of a timer after so many of them
abbrev pub shortest : ℕ → ℕ
shortest n = min (FIRST * 2 ^ (n / DOUBLES_AFTER)) LONGEST

-- How many milliseconds the next timer lasts. It doubles with each timeout, and if the replica followed others: they had
-- one. It is the same in a view that the replica entered, until something moves there. Then it halves.
abbrev pub lasts : List Moment → ℕ
lasts [] = FIRST
lasts (timed_out may_sign ∷ past) = min (2 * lasts past) LONGEST
lasts (followed ∷ past) = min (2 * lasts past) LONGEST
lasts (moved ∷ past) = max (lasts past / 2) (shortest (costly past))
lasts (_ ∷ past) = lasts past

-- the timer of this number runs
abbrev pub IsRunning : List Moment → ℕ → Type 0
IsRunning past number = (number ≡ last_number past) × IsSome (watched past)

-- ---- what comes next

-- The timer that runs ends early if the replica is inactive, but not for the view that the timer watches, or active and
-- it watches a view.
pub data EndsEarly (past : List Moment) (standing : Standing) : List Moment → Type 0 where
  follows : IsSome (watched past) → (wait_of standing ≡ watched past → ⊥) → is_some standing.view ≡ true
      → EndsEarly past standing (followed ∷ past)
  enters : (v : View) → watched past ≡ Some (ViewWait v) → is_some standing.view ≡ false → EndsEarly past standing (entered ∷ past)
  stays : (IsSome (watched past) → wait_of standing ≡ watched past
      ⊎ ((is_some standing.view ≡ false) × ((v : View) → watched past ≡ Some (ViewWait v) → ⊥)))
      → EndsEarly past standing past

-- A timer starts if none runs and the replica waits for something.
pub data Starts (past : List Moment) (standing : Standing) : Option Timer → List Moment → Type 0 where
  begins : (wait : Wait) → watched past ≡ None → wait_of standing ≡ Some wait
      → Starts past standing (Some (record { number = last_number (began wait ∷ past); milliseconds = lasts past }))
      (began wait ∷ past)
  runs : IsSome (watched past) → Starts past standing None past
  waits_not : wait_of standing ≡ None → Starts past standing None past

-- The timer that runs may end early. Then one begins, or none does.
abbrev pub Begins : List Moment → Standing → Option Timer → List Moment → Type 0
Begins past standing timer now = (left : List Moment) × EndsEarly past standing left × Starts left standing timer now

-- A timer is over, and the result says whether the replica gets a timeout. If the timer doesn't run, nothing comes of it.
pub data Ends (needed : ℕ) (past : List Moment) (number : ℕ) (standing : Standing) : Bool → List Moment → Type 0 where
  runs_not : (IsRunning past number → ⊥) → Ends needed past number standing false past
  gives : IsRunning past number → wait_of standing ≡ watched past → is_linked needed past ≡ true
      → Ends needed past number standing true (timed_out (may_sign standing) ∷ past)
  spares : IsRunning past number → wait_of standing ≡ watched past → is_linked needed past ≡ false
      → Ends needed past number standing false (spared ∷ past)
  moves : IsRunning past number → (wait_of standing ≡ watched past → ⊥)
      → Ends needed past number standing false (moved ∷ past)

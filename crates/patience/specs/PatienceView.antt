-- What callers see of a replica's patience.
use Rattle.std.specs.Prelude.{◌≡◌, ℕ, min, Bool, List, Option}
use Rattle.patience.specs.Moments.{Moment, last_number, watched, is_linked, costly, lasts, EndsEarly, Begins, Ends}
use Rattle.patience.specs.declared.patience.Timer.{Timer}
use Rattle.patience.specs.declared.standing.Standing.{Standing}
use Rattle.patience.specs.declared.standing.Wait.{Wait}

-- how many others must be linked, and what the past says of links and timers
pub record PatienceData : Type 0 where
  pub needed : ℕ
  pub is_linked : Bool
  pub number : ℕ
  pub watched : Option Wait
  pub lasts : ℕ
  pub costly : ℕ

-- The patience is what this past leaves. Timeouts that may cost a signature are counted up to 255.
pub record Fits (p : PatienceData) (past : List Moment) : Type 0 where
  pub links : p.is_linked ≡ is_linked p.needed past
  pub number : p.number ≡ last_number past
  pub watches : p.watched ≡ watched past
  pub lasts : p.lasts ≡ lasts past
  pub counts : p.costly ≡ min (costly past) 255

-- The timer that runs ends early, or goes on.
abbrev pub MayEndEarly : List Moment → Standing → PatienceData → Type 0
MayEndEarly past standing new = (left : List Moment) × EndsEarly past standing left × Fits new left

-- A timer begins now, or none does.
abbrev pub MayBegin : List Moment → Standing → Option Timer → PatienceData → Type 0
MayBegin past standing result new = (now : List Moment) × Begins past standing result now × Fits new now

-- A timer is over, and the result says whether the replica gets a timeout.
abbrev pub MayEnd : ℕ → List Moment → ℕ → Standing → Bool → PatienceData → Type 0
MayEnd needed past number standing result new =
    (now : List Moment) × Ends needed past number standing result now × Fits new now

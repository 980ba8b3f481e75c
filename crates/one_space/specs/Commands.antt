-- The statuses of the commands, and what they say on standard error.
use Rattle.std.specs.Prelude.{◌≡◌, ℕ, Bool, true, false, ◌==◌, if◌then◌else◌, List, [], Option, Result, Ok, Err}
use Rattle.std.specs.Prelude.{MatchResult, Vec}
use Rattle.std.specs.declared.alloc.Global.{Global}
use Rattle.tuple_codec.specs.declared.operations.Op.{Op}
use Rattle.one_space.specs.Complaints.{IsUnreadable, OfOpen, OfShow, OfWrite, Says, lines_said, status_of}
use Rattle.one_space.specs.Endings.{EndsKnown, Scene}
use Rattle.one_space.specs.Scripts.{JudgesScript, lines_told}
use Rattle.one_space.specs.Shown.{EndsShow}
use Rattle.one_space.specs.declared.complaints.Complaint.{Complaint}
use Rattle.one_space.specs.declared.complaints.Complaint.TheVariants as complaints
use Rattle.one_space.specs.declared.digits.ShowFault.{ShowFault}
use Rattle.one_space.specs.declared.session.Ended.{Ended}
use Rattle.one_space.specs.declared.session.LocalFault.{LocalFault}
use Rattle.one_space.specs.declared.session.LocalFault.TheVariants.{Refused, NoMemory, Read, Write}
use Rattle.one_space.specs.declared.session.Manner.{Manner}
use Rattle.one_space.specs.declared.session.Manner.TheVariants.{Strict, KeepsGoing, Talks}
use Rattle.one_space.specs.declared.session.Rules.{Rules}

-- A run talks if someone sits there. Otherwise it goes on after refused lines if that is asked for.
abbrev pub manner_for : Bool → Bool → Manner
manner_for true keeps_going = Talks
manner_for false true = KeepsGoing
manner_for false false = Strict

-- what a console was told
abbrev pub Told : Type 0
Told = Option (List (List ℕ))

-- This is complained about, in the one line of the complaint, and the status is the complaint's.
pub record Complains (Of : Complaint → Type 0) (status : ℕ) (old new : Told) : Type 0 where
  pub complaint : Complaint
  pub of : Of complaint
  pub status_is : status ≡ status_of complaint
  pub said : Says old new (lines_said complaint)

-- The end of a command by the fault of a run over the file at this path. A refused line was told by the run.
abbrev pub EndsByFault : LocalFault → List ℕ → ℕ → Told → Told → Type 0
EndsByFault (Refused line fault) path status old new = (status ≡ 1) × (new ≡ old)
EndsByFault NoMemory path status old new = Complains (λ c. c ≡ complaints.Stopped) status old new
EndsByFault (Read error) path status old new = Complains (IsUnreadable path) status old new
EndsByFault (Write error) path status old new = Complains (OfWrite error) status old new

-- 0, or 1 if a line was refused
abbrev pub status_of_ended : Ended → ℕ
status_of_ended ended = if ended.refused == 0 then 0 else 1

-- A run of the script at this path ended so. The console was told some lines in it, and the others at its end.
pub record EndsLocal (rules : Rules) (path : List ℕ) (known : Option (List ℕ)) (status : ℕ) (old new : Scene)
    : Type 0 where
  pub ended : Result Ended LocalFault
  pub said : Told
  pub run : EndsKnown ended rules known old (record new { said = said })
  pub end : MatchResult ended
      (λ e. (status ≡ status_of_ended e) × (new.said ≡ said))
      (λ fault. EndsByFault fault path status said new.said)

-- The operations of the script at this path were read, or the status is that of a complaint.
abbrev pub ReadsOpened : ℕ → Result (Vec (Op Global) Global) ℕ → List ℕ → Option (List ℕ) → Told → Told → Type 0
ReadsOpened most result path known old new =
    MatchResult result
    (λ ops. JudgesScript most (Ok ops) known × Says old new [])
    (λ status. (fault : LocalFault) × (said : Told) × JudgesScript most (Err fault) known
    × Says old said (lines_told fault) × EndsByFault fault path status said new)

-- The tuple of the digits was shown, with status 0, or it is told why not.
pub record EndsShown (digits : List ℕ) (status : ℕ) (old new : Option (List ℕ)) (before after : Told) : Type 0 where
  pub ended : Result (Unit {0}) ShowFault
  pub show : EndsShow ended digits old new
  pub end : MatchResult ended
      (λ _. (status ≡ 0) × (after ≡ before))
      (λ fault. Complains (OfShow fault) status before after)

-- Laws of the words on a log: its marks, its primary, and its answers.
use Rattle.std.proofs.Common.{◌≡◌, ℕ, ◌+◌, ◌*◌, ◌%◌, ◌^◌, ◌≤◌, Bool, true, false, cond, ◌&&◌, List, refl, sym, ap, ◌∙◌, Option, Some, None, option_map, nat_lt, nat_le}
use Rattle.std.proofs.lemmas.Bool.{le-ltb}
use Rattle.std.proofs.lemmas.Slice.Eq.{bytes_eq-Decides}
use Rattle.sha2.specs.Sha256.{sha256}
use Rattle.quorum.specs.Votes.{has_digest}
use Rattle.ordering.specs.Log as logs
use Rattle.ordering.specs.Log.{LogData}
use Rattle.protocol.specs.System.Configuration.{Configuration, primary, span}
use Rattle.protocol.specs.System.Trace.{Entry}
use Rattle.protocol.specs.Replica.Certificates.{low, is_in_marks}
use Rattle.replica_histories.specs.Logs.{FitsLog, LogStays}

-- ---- options and tests

-- a value that a test gives passed the test
pub passed : {A : Type 0} (b : Bool) (o : Option A) (x : A) → cond b o None ≡ Some x → (b ≡ true) × (o ≡ Some x)
passed true o x h = (refl, h)
passed false o x h = absurd cc

pub mapped : {A B : Type 0} (f : A → B) (o : Option A) (y : B) → option_map f o ≡ Some y → (x : A) × (o ≡ Some x) × (f x ≡ y)
mapped f None y h = absurd cc
mapped f (Some x) y h = (x, refl, cc)

pub apart : (b : Bool) → b ≡ true → b ≡ false → ⊥
apart b e f = let bad : true ≡ false = sym e ∙ f in cc

pub given_not : {A : Type 0} (o : Option A) (x : A) → o ≡ Some x → o ≡ None → ⊥
given_not o x e f = let bad : Some x ≡ None = sym e ∙ f in cc

pub given_digest : (d : List ℕ) (o : Option (List ℕ)) → o ≡ Some d → has_digest d o ≡ true
given_digest d o h = rw h ((bytes_eq-Decides d d).1 refl)

-- ---- marks

pub marks_same : (c : Configuration) (log : LogData) (i : ℕ) → log.span ≡ span c → is_in_marks c log.low i ≡ logs.is_in_marks log i
marks_same c log i e = ap (λ (n : ℕ). nat_lt log.low i && nat_le i (log.low + n) && nat_lt i (2 ^ 48)) (sym e)

-- the marks of a log that fits are those of the history
pub marks_are : (c : Configuration) (me : ℕ) (log : LogData) (past : List Entry) (i : ℕ) → FitsLog c me log past → is_in_marks c (low c me past) i ≡ logs.is_in_marks log i
marks_are c me log past i f = ap (λ (h : ℕ). is_in_marks c h i) f.low ∙ marks_same c log i f.span

-- no number up to the low mark is in them
pub below_marks : (log : LogData) (i : ℕ) → i ≤ log.low → logs.is_in_marks log i ≡ false
below_marks log i l = rw (le-ltb log.low i l) refl

pub marks_stay : (old new : LogData) (i : ℕ) → LogStays old new → logs.is_in_marks new i ≡ logs.is_in_marks old i
marks_stay old new i s = rw (s.low, s.span) refl

pub primary_same : (c : Configuration) (log : LogData) (v : ℕ) → log.faults ≡ c.faults → logs.primary log v ≡ primary c v
primary_same c log v e = ap (λ (n : ℕ). v % (3 * n + 1)) e

-- ---- the log's answers

pub batch_read : (log : LogData) (i : ℕ) → logs.is_in_marks log i ≡ true → logs.logged_batch log i ≡ (logs.row_of log i).batch
batch_read log i h = rw h refl

-- a number with a digest has a batch
pub record HasBatch (log : LogData) (i : ℕ) (digest : List ℕ) : Type 0 where
  pub batch : List ℕ
  pub within : logs.is_in_marks log i ≡ true
  pub logged : logs.logged_batch log i ≡ Some batch
  pub digest_is : sha256 batch ≡ digest

pub has_batch : (log : LogData) (i : ℕ) (digest : List ℕ) → logs.logged_digest log i ≡ Some digest → HasBatch log i digest
has_batch log i digest h =
    let p = passed (logs.is_in_marks log i) (logs.digest_of (logs.row_of log i)) digest h in
    let m = mapped sha256 (logs.row_of log i).batch digest p.1 in
    record { batch = m.0; within = p.0; logged = batch_read log i p.0 ∙ m.1; digest_is = m.2 }

pub digest_read : (log : LogData) (i : ℕ) (batch : List ℕ) → logs.is_in_marks log i ≡ true → logs.logged_batch log i ≡ Some batch → logs.logged_digest log i ≡ Some (sha256 batch)
digest_read log i batch h k = let row : (logs.row_of log i).batch ≡ Some batch = sym (batch_read log i h) ∙ k in rw (h, row) refl

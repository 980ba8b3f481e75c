-- Definitions for private functions that compare. Here the oldest entry stands first.
use Rattle.std.specs.Prelude.{◌≡◌, ◌≤◌, ℕ, Bool, false, List, ◌++◌, length, map, reverse, slice_get, unwrap_or, Result, OnOk}
use Rattle.protocol.specs.System.Configuration.{Configuration}
use Rattle.protocol.specs.System.Trace.{Entry, history_of}
use Rattle.protocol.specs.System.Run.{IsRun}
use Rattle.journal.specs.Carrying.{is_faulty, Carried}
use Rattle.journal.specs.Histories.{correct_of}
use Rattle.journal.specs.Parts.{Part, fresh}
use Rattle.protocol.specs.System.Reads.{without_reads}

-- the entries of a party's ordering
abbrev pub ordering_of : ℕ → List Entry → List Entry
ordering_of p entries = without_reads (history_of p entries)

-- by each party's number whether it is faulty
abbrev pub AreFaulty : Configuration → List Bool → Type 0
AreFaulty c marks = (p : ℕ) → unwrap_or (slice_get marks p) false ≡ is_faulty c p

-- The entries, the oldest first, make a run in which received frames were sent, and the limit is kept.
pub record JournalIsKept (c : Configuration) (entries : List Entry) (limit : ℕ) : Type 0 where
  pub run : IsRun c (reverse entries)
  pub carried : Carried c (reverse entries)
  pub room : length entries ≤ limit

-- a new share for each correct one of these parties was appended
abbrev pub AddsShares : {U E : Type 0} → Configuration → List ℕ → List Part → List Part → Result U E → Type 0
AddsShares c parties old new result = OnOk result (new ≡ old ++ map fresh (correct_of c parties))

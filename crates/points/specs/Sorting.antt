-- Words of the private functions that sort points. Points stand in a map, by a key of what orders them and, last, a
-- rank: of two that are otherwise equal, the later one comes first.
use Rattle.std.specs.Prelude.{◌≡◌, ℕ, ◌+◌, ◌^◌, ◌<◌, List, ◌++◌, map, filter, not, Option}
use Rattle.std.specs.List.{list_any}
use Rattle.std.specs.Ordering.{nat_cmp, ordering_then}
use Rattle.std.specs.declared.cmp.Ordering.{Ordering}
use Rattle.std.specs.BTreeMap.{is_at}
use Rattle.terms.specs.declared.order.Mode.{Mode}
use Rattle.terms.specs.declared.order.Mode.TheVariants as modes
use Rattle.wire_format.specs.Lists.{Each}
use Rattle.protocol.specs.Space.Linear.{Placing, is_double, sorted}
use Rattle.points.specs.declared.point.Placed.{Placed}
use Rattle.points.specs.declared.sorting.Key.{Key}
use Rattle.points.specs.declared.sorting.CallKey.{CallKey}
use Rattle.points.specs.declared.sorting.Reads.{Reads}
use Rattle.points.specs.PointView.{placing_of}
use Rattle.points.specs.Places.{position_in}
use Rattle.points.specs.Scanning.{AreScans, entry_read, with_read}
use Rattle.points.specs.declared.levels.Rise.{Rise}
use Rattle.points.specs.declared.scans.ClientScan.{ClientScan}
use Rattle.authenticator.specs.Membership.{Membership}
use Rattle.protocol.specs.System.Trace.{Entry}

abbrev pub ordered_key : ℕ → Placing → Key
ordered_key rank x =
    record { position = x.item.position; number = x.number; turn = 0; client = 0; timestamp = 0; rank = rank }

abbrev pub read_key : ℕ → Placing → Key
read_key rank x =
    record {
      position = x.item.position;
      number = x.number;
      turn = 1;
      client = x.item.client;
      timestamp = x.item.timestamp;
      rank = rank;
    }

abbrev pub key_by : Mode → ℕ → Placing → Key
key_by modes.Ordered rank x = ordered_key rank x
key_by modes.ReadOnly rank x = read_key rank x

-- the key of a point of this rank
abbrev pub sorting_key : ℕ → Placing → Key
sorting_key rank x = key_by x.mode rank x

-- the entry has the key of its point, of a rank above this
abbrev pub IsRankedAbove : ℕ → Key × Placed → Type 0
IsRankedAbove rank e = (r : ℕ) × (rank < r) × (e.0 ≡ sorting_key r (placing_of e.1))

-- so has each
abbrev pub AreRankedAbove : ℕ → List (Key × Placed) → Type 0
AreRankedAbove rank entries = Each (IsRankedAbove rank) entries

-- the points, sorted
abbrev pub sorted_of : List (Key × Placed) → List Placing
sorted_of entries = map (λ e. placing_of e.1) entries

-- ---- the calls of reads

abbrev pub call_cmp : CallKey → CallKey → Ordering
call_cmp a b = ordering_then (nat_cmp a.client b.client) (nat_cmp a.timestamp b.timestamp)

-- the calls are those of these reads
abbrev pub AreCallsOfReads : List Placing → List CallKey → Type 0
AreCallsOfReads reads calls =
    (x : Placing) (key : CallKey) → key.client ≡ x.item.client → key.timestamp ≡ x.item.timestamp
    → list_any (is_at (call_cmp key)) calls ≡ is_double reads x

-- ---- reads in their order, with their calls

-- these reads, with ranks not below the bound
pub record HoldsReads (bound : ℕ) (reads : List Placing) (held : Reads) : Type 0 where
  pub sorted : sorted_of held.sorted.entries ≡ sorted reads
  pub ranked : (r : ℕ) → r < bound → AreRankedAbove r held.sorted.entries
  pub calls : AreCallsOfReads reads held.calls.keys

-- a read, if there is one, leads from the earlier reads to the later ones
abbrev pub AddsRead : ℕ → Option Placing → Reads → Reads → Type 0
AddsRead rank read old new =
    (reads : List Placing) → HoldsReads (rank + 1) reads old → HoldsReads rank (with_read read reads) new

-- the read that an entry ends, if it ends one, leads from the earlier reads to the later ones
abbrev pub AddsEnded : Membership → List Rise → List (ℕ × ClientScan) → Entry → ℕ → Reads → Reads → Type 0
AddsEnded m found scans e rank old new =
    (past : List Entry) → AreScans past scans → AddsRead rank (entry_read m (position_in found) past e) old new

-- the points are these ordered ones, without those of reads, and the reads, sorted
abbrev pub MergesInto : Reads → List Placing → List Placing → Type 0
MergesInto held ordered points =
    (reads : List Placing) → HoldsReads (2 ^ 63) reads held
    → points ≡ sorted (filter (λ x. not (is_double reads x)) ordered ++ reads)

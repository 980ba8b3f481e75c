-- Which entries a picture shows, and when there is none.
use Rattle.std.specs.Prelude.{◌≡◌, ℕ, suc, ◌-◌, ◌<◌, ◌≤◌, min, Result, Ok, Err, ⊤}
use Rattle.picture.specs.declared.fault.PictureFault.{PictureFault}
use Rattle.picture.specs.declared.fault.PictureFault.TheVariants.{NoEntry, TooHigh, TooWide, NoMemory}
use Rattle.picture.specs.declared.lanes.TheConstants.{MAX_ROWS, MAX_LANES}

-- how many entries of a trace of so many stand at the positions from the one to the other, both among them
abbrev pub entries_between : ℕ → ℕ → ℕ → ℕ
entries_between entries from to = min entries (suc to) - from

-- So many entries of a trace have room, and there is one at least if the trace has any.
abbrev pub HaveRoom : ℕ → ℕ → Type 0
HaveRoom entries drawn = (drawn ≤ MAX_ROWS) × (0 < entries → 0 < drawn)

-- more parties than have room beside each other
abbrev pub IsTooWide : ℕ → ℕ → Type 0
IsTooWide parties most = (most ≡ MAX_LANES) × (MAX_LANES < parties)

-- What the fault says of a trace, of whose entries so many are to be drawn. The entries have room if it is none of the
-- first two.
abbrev pub IsFaultOf : ℕ → ℕ → PictureFault → Type 0
IsFaultOf entries drawn (NoEntry n) = (n ≡ entries) × (0 < entries) × (drawn ≡ 0)
IsFaultOf entries drawn (TooHigh n most) = (n ≡ drawn) × (most ≡ MAX_ROWS) × (MAX_ROWS < drawn)
IsFaultOf entries drawn (TooWide parties most) = HaveRoom entries drawn × IsTooWide parties most
IsFaultOf entries drawn NoMemory = HaveRoom entries drawn

-- The entries are drawn, or a fault tells why not. So each of the first two faults is told exactly if it applies.
abbrev pub DrawsEntries : {V : Type 0} → ℕ → ℕ → Result V PictureFault → Type 0
DrawsEntries entries drawn (Ok v) = HaveRoom entries drawn
DrawsEntries entries drawn (Err fault) = IsFaultOf entries drawn fault

-- There is no room for all lanes, or memory ran out.
abbrev pub IsLateFault : PictureFault → Type 0
IsLateFault (TooWide parties most) = IsTooWide parties most
IsLateFault NoMemory = ⊤
IsLateFault _ = ⊥

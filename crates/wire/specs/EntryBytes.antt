-- What a slice of MACs stands for, and which slices do.
use Rattle.std.specs.Prelude.{◌*◌, ◌≤◌, List, length}
use Rattle.wire.specs.declared.mac_bytes.MacBytes.TheInside.{Inside}
use Rattle.wire_format.specs.Messages.{MacData}
use Rattle.wire.specs.Macs.{macs_in}

-- the entries at the front of the bytes
abbrev pub entries_view : Inside → List MacData
entries_view m = macs_in m.count m.entries.now

-- There are at most ten entries, each whole. Bytes after them don't count.
pub record AreEntries (m : Inside) : Type 0 where
  pub few : m.count ≤ 10
  pub whole : 34 * m.count ≤ length m.entries.now

-- MACs as they lie in the bytes of a frame: entries of 34 bytes, one after another.
use Rattle.std.specs.Prelude.{ℕ, zero, suc, List, [], ◌∷◌, take, drop}
use Rattle.byteorder.specs.Endian.{big_number}
use Rattle.wire_format.specs.Messages.{MacData}

-- the entry at the front: two bytes of the receiver's number, and 32 of the MAC
abbrev pub mac_in : List ℕ → MacData
mac_in bs = record { receiver = big_number 2 bs; mac = take 32 (drop 2 bs) }

-- so many entries
abbrev pub macs_in : ℕ → List ℕ → List MacData
macs_in zero bs = []
macs_in (suc n) bs = mac_in bs ∷ macs_in n (drop 34 bs)

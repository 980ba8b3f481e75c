-- The names of the keys in the file of a party.
use Rattle.std.specs.Prelude.{ℕ, List, codes}
use Rattle.party_keys.specs.declared.key.Key.{Key}
use Rattle.party_keys.specs.declared.key.Key.TheVariants.{Checkpoint, Clients, Faults, From, Party, Public, SigningSeed, To}

abbrev pub key_name : Key → List ℕ
key_name Checkpoint = codes "checkpoint"
key_name Clients = codes "clients"
key_name Faults = codes "f"
key_name From = codes "from"
key_name Party = codes "party"
key_name Public = codes "public"
key_name SigningSeed = codes "signing_seed"
key_name To = codes "to"

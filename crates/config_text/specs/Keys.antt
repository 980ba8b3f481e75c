-- The names of a configuration's keys.
use Rattle.std.specs.Prelude.{ℕ, List, codes}
use Rattle.config_text.specs.declared.key.Key.{Key}
use Rattle.config_text.specs.declared.key.Key.TheVariants.{Faults, Clients, Seed, Checkpoint, FaultyReplicas, FaultyClients, Journal}

abbrev pub key_name : Key → List ℕ
key_name Faults = codes "f"
key_name Clients = codes "clients"
key_name Seed = codes "seed"
key_name Checkpoint = codes "checkpoint"
key_name FaultyReplicas = codes "faulty_replicas"
key_name FaultyClients = codes "faulty_clients"
key_name Journal = codes "journal"

-- How the command ends, by the text of the file.
use Rattle.std.proofs.Common.{ℕ, List, Option, None, Some, IfSome, Result, Ok, Err, refl}
use Rattle.party_keys.specs.PartyData.{PartyData}
use Rattle.party_keys.specs.Reading.{SaysFile}
use Rattle.keys_file.specs.Reading.{RefusesText}
use Rattle.keys_file.specs.declared.fault.KeysFault.{KeysFault}
use Rattle.replica_command.specs.Serving.{EndsByFile, EndsByKeys}
use Rattle.replica_command.specs.declared.fault.ReplicaFault.{ReplicaFault}
use Rattle.replica_command.specs.declared.fault.ReplicaFault.TheVariants.{Keys, Client, NoMemory, Serve}

by_keys : (text : List ℕ) (k : PartyData) (result : Result (Unit {0}) ReplicaFault) (known old new : Option (List ℕ)) → SaysFile text k → EndsByKeys k result known old new → EndsByFile text result known old new
by_keys text k (Ok done) known old new says h = (k, says, h)
by_keys text k (Err (Serve fault)) known old new says h = (k, says, h)
by_keys text k (Err (Client number last)) known old new says h = (k, says, h)
by_keys text k (Err NoMemory) known old new says h = h
by_keys text k (Err _) known old new says h = absurd h

pub served : (file : Option (List ℕ)) (k : PartyData) (result : Result (Unit {0}) ReplicaFault) (known old new : Option (List ℕ)) → IfSome file (λ text. SaysFile text k) → EndsByKeys k result known old new
    → IfSome file (λ text. EndsByFile text result known old new)
served None k result known old new says h = tt
served (Some text) k result known old new says h = by_keys text k result known old new says h

pub not_served : (file : Option (List ℕ)) (fault : KeysFault) (known old : Option (List ℕ)) → IfSome file (λ text. RefusesText text fault) → IfSome file (λ text. EndsByFile text (Err (Keys fault)) known old old)
not_served None fault known old h = tt
not_served (Some text) fault known old h = (h, refl)

-- The numbers of parties: those of replicas are below those of clients.
use Rattle.std.specs.Prelude.{ℕ, ◌+◌, ◌-◌}
use Rattle.terms.specs.declared.parties.Party.{Party}
use Rattle.terms.specs.declared.parties.Party.TheVariants as parties
use Rattle.terms.specs.declared.parties.TheConstants.{FIRST_CLIENT}

-- the number of a client among the parties
abbrev pub client_party : ℕ → ℕ
client_party client = FIRST_CLIENT + client

-- the number of a party among the clients
abbrev pub client_number : ℕ → ℕ
client_number party = party - FIRST_CLIENT

-- the number of a party in frames
abbrev pub party_number : Party → ℕ
party_number (parties.Replica r) = r.0
party_number (parties.Client c) = client_party c.number

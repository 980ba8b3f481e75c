-- The model of the program's configuration.
use Rattle.std.specs.Prelude.{◌≡◌, ℕ, List, Result, IfOk, IsOk, Vec}
use Rattle.std.specs.declared.alloc.Global.{Global}
use Rattle.signing.specs.Publics.{derived_publics}
use Rattle.protocol.specs.System.Configuration.{Configuration, IsConfiguration}
use Rattle.events.specs.declared.config.BadConfig.{BadConfig}
use Rattle.events.specs.declared.config.Config.TheInside.{Inside}

abbrev pub configuration_of : ℕ → ℕ → List ℕ → ℕ → List ℕ → List ℕ → Configuration
configuration_of faults clients seed period faulty_replicas faulty_clients =
    record {
      faults = faults;
      clients = clients;
      seed = seed;
      publics = derived_publics seed faults;
      period = period;
      faulty_replicas = faulty_replicas;
      faulty_clients = faulty_clients;
    }

abbrev pub config_data : Inside → Configuration
config_data c =
    configuration_of c.faults c.clients c.seed c.period c.faulty_replicas.items
    c.faulty_clients.items

-- the program makes the configuration of these numbers
abbrev pub MakesConfig :
    ℕ → ℕ → List ℕ → ℕ → Vec ℕ Global → Vec ℕ Global → Result Configuration BadConfig → Type 0
MakesConfig faults clients seed period replicas named result =
    IfOk result (λ c. c ≡ configuration_of faults clients seed period replicas.items named.items)

-- the program makes one if it is valid
abbrev pub MakesValid :
    ℕ → ℕ → List ℕ → ℕ → Vec ℕ Global → Vec ℕ Global → Result Configuration BadConfig → Type 0
MakesValid faults clients seed period replicas named result =
    IsConfiguration (configuration_of faults clients seed period replicas.items named.items)
    → IsOk result

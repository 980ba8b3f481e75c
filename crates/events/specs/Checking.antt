-- The test of a configuration. The contracts of private functions use it.
use Rattle.std.specs.Prelude.{ℕ, Bool, true, ◌&&◌, not, List, [], ◌∷◌, length, nat_le, nat_lt}
use Rattle.terms.specs.declared.parties.TheConstants.{MAX_CLIENTS}
use Rattle.quorum.specs.Quorum.{member}
use Rattle.protocol.specs.System.Configuration.{Configuration, replicas}
use Rattle.events.specs.ConfigView.{configuration_of}

-- the numbers are below the bound, and none stands twice
abbrev pub each_once : ℕ → List ℕ → Bool
each_once bound [] = true
each_once bound (x ∷ xs) = (nat_lt x bound && not (member xs x)) && each_once bound xs

abbrev pub is_within_limit : ℕ → ℕ → Bool
is_within_limit most n = nat_le 1 n && nat_le n most

-- the configuration is valid, except perhaps for its seed
abbrev pub is_configuration : Configuration → Bool
is_configuration c =
    ((((is_within_limit 3 c.faults && is_within_limit MAX_CLIENTS c.clients) && is_within_limit 16 c.period)
    && nat_le (length c.faulty_replicas) c.faults)
    && each_once (replicas c) c.faulty_replicas)
    && each_once c.clients c.faulty_clients

-- whether these, with any seed, make a configuration
abbrev pub are_valid : ℕ → ℕ → ℕ → List ℕ → List ℕ → Bool
are_valid faults clients period replicas named =
    is_configuration (configuration_of faults clients [] period replicas named)

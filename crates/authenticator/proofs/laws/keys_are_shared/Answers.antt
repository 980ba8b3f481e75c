use Rattle.authenticator.specs.Dealing.{peers}
use Rattle.authenticator.proofs.Dealing.{all_own, finds_from, finds_to}
use Rattle.authenticator.proofs.laws.keys_are_shared.Goals as goal

pub returns-clause-shared : goal.returns-clause-shared
returns-clause-shared c seed faults clients me party is =
    (finds_from seed faults clients me party is, finds_to seed faults clients me party is)

pub returns-clause-own : goal.returns-clause-own
returns-clause-own c seed faults clients me = all_own seed me (peers faults clients me)

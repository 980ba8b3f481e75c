-- A reason to refuse Q is a reason to refuse P, if P implies Q.
use Rattle.party_keys.specs.declared.fault.FileFault.{FileFault}
use Rattle.party_keys.specs.declared.fault.FileFault.TheVariants.{NoMemory}
use Rattle.std.specs.Prelude.{Result, Ok, Err, MatchResult}
use Rattle.party_keys.specs.Judging.{Because}

pub because : (fault : FileFault) {P Q : Type 0} → (P → Q) → Because fault P → Because fault Q
because NoMemory f h = tt
because _ f h = f h

-- the same of a call whose result is handed on
pub judged : {V : Type 0} {Is Was : V → Type 0} {P Q : Type 0} (r : Result V FileFault) → ((v : V) → Was v → Is v) → (P → Q) → MatchResult r Was (λ fault. Because fault P) → MatchResult r Is (λ fault. Because fault Q)
judged (Ok v) f g h = f v h
judged (Err fault) f g h = because fault g h

-- A reason to refuse Q is a reason to refuse P, if P implies Q.
use Rattle.config_text.specs.declared.fault.ConfigFault.{ConfigFault}
use Rattle.config_text.specs.declared.fault.ConfigFault.TheVariants.{NoMemory}
use Rattle.std.specs.Prelude.{Result, Ok, Err, MatchResult}
use Rattle.config_text.specs.Judging.{Because}

pub because : (fault : ConfigFault) {P Q : Type 0} → (P → Q) → Because fault P → Because fault Q
because NoMemory f h = tt
because _ f h = f h

-- the same of a call whose result is handed on
pub judged : {V : Type 0} {Is Was : V → Type 0} {P Q : Type 0} (r : Result V ConfigFault) → ((v : V) → Was v → Is v) → (P → Q) → MatchResult r Was (λ fault. Because fault P) → MatchResult r Is (λ fault. Because fault Q)
judged (Ok v) f g h = f v h
judged (Err fault) f g h = because fault g h

-- What holds of a result that a caller hands on.
use Rattle.std.proofs.Common.{Result, Ok, Err, IfOk}

-- what follows from it holds then
pub if_ok_on : {A E : Type 0} (P Q : A → Type 0) (r : Result A E) → ((x : A) → P x → Q x) → IfOk r P → IfOk r Q
if_ok_on P Q (Ok x) f h = f x h
if_ok_on P Q (Err e) f h = h

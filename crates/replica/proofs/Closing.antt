-- An open transfer, after another state replaces the executed one.
use Rattle.std.proofs.Common.{◌≡◌, ℕ, suc, Bool, true, false, Option, Some, None, option_map, refl, arith, nat_lt}
use Rattle.std.specs.Bool.{then_some}
use Rattle.std.specs.Option.{ForSome}
use Rattle.protocol.specs.Replica.State.{State}
use Rattle.replica_histories.specs.Transfers.{still_open}
use Rattle.desk.specs.State.{OpenData}
use Rattle.desk.specs.DeskOf.{RestsAt}
use Rattle.desk.specs.Desking.{above_number}

-- it is closed if the history's is
pub above_same : (n : ℕ) (o : Option OpenData) → still_open n (option_map (λ x. x.transfer) o) ≡ option_map (λ x. x.transfer) (above_number n o)
above_same n None = refl
above_same n (Some o) = go (nat_lt n o.transfer.number)
  where
    go : (b : Bool) → then_some b o.transfer ≡ option_map (λ (x : OpenData). x.transfer) (then_some b o)
    go true = refl
    go false = refl

-- a remaining transfer was open before
above_was : (n : ℕ) (o : Option OpenData) (x : OpenData) → above_number n o ≡ Some x → o ≡ Some x
above_was n None x h = absurd cc
above_was n (Some o) x h = go (nat_lt n o.transfer.number) h
  where
    go : (b : Bool) → then_some b o ≡ Some x → Some o ≡ Some x
    go true h = h
    go false h = absurd cc

-- it rests on an earlier state then
pub rests_above : (old new : State) (o : Option OpenData) → new.number ≡ suc old.number → ForSome o (RestsAt old) → ForSome (above_number new.number o) (RestsAt new)
rests_above old new o next rests x is =
    let was = rests x (above_was new.number o x is) in
    let most = was.0 in
    (omega (arith, most, next), λ here. absurd (omega (arith, most, next, here)))

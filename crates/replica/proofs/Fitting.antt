-- A new replica fits the empty history.
use Rattle.std.proofs.Common.{◌≡◌, ℕ, ◌+◌, ◌*◌, ◌<◌, ◌≤◌, [], true, false, refl, sym, subst, arith}
use Rattle.std.proofs.lemmas.Option.{none-some}
use Rattle.ordering.specs.Log.{new_log}
use Rattle.protocol.specs.System.Configuration.{Configuration, members, span}
use Rattle.protocol.specs.Replica.State.{opening}
use Rattle.replica_histories.specs.Events as histories
use Rattle.replica_histories.proofs.ChangesPassing.{changes_begin}
use Rattle.replica_histories.specs.Histories.{first_desk}
use Rattle.replica_histories.proofs.Starting.{first_hold}
use Rattle.replica.specs.State.{BothPartsData, Gives}
use Rattle.orderer.specs.Taking.{IsNewOrderer}
use Rattle.desk.specs.Desking.{IsNewDesk}
use Rattle.orderer.proofs.Flags.{flags_first}
use Rattle.replica.specs.BothParts.{BothPartsFitHistory}

-- a new replica
module _ (c : Configuration) (me : ℕ) (some_faults : 1 ≤ c.faults) (most_faults : c.faults ≤ 3) (period : c.period ≤ 16) (mine : me < 3 * c.faults + 1) where
  few : span c ≤ 32
  few = omega (arith, period)

  first : histories.BothFitBetweenEvents c me first_desk (new_log me c.faults (span c)) []
  first = first_hold c me some_faults most_faults mine few

  pub fits_new : (r : BothPartsData) → IsNewOrderer (members c me) c.period me r.orderer → IsNewDesk (members c me) c.period me r.desk → BothPartsFitHistory c r []
  fits_new r orders desks = record {
    members_are = subst (Gives c) (sym orders.0) refl;
    right = tt;
    runs = record {
      is_desk = rw desks (record {
        members_are = refl;
        period_is = refl;
        rests = λ o is. absurd (none-some o is);
        calls = tt;
        differ = λ i j d l m. absurd (omega (arith, m));
      });
      holds = rw (orders.0, desks) first;
      numbers = rw (orders.0, desks) (λ own. flags_first c me 0 opening);
      said = rw orders.0 (λ entry is. absurd (none-some entry is));
      changes = rw orders.0 (changes_begin c me);
      all = rw (orders.0, desks) (λ next. refl);
      nothing_begins = rw orders.0 (λ off own. absurd (let bad : true ≡ false = off in cc));
    };
  }

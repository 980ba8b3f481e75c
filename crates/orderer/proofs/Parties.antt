-- What stays of an orderer, from one step to the next.
use Rattle.std.proofs.Common.{refl, ◌∙◌, arith}
use Rattle.orderer.specs.State.{OrdererData}
use Rattle.orderer.specs.Going.{IsSameLog, IsSameOrderer, KeepsChoice, KeepsParty}
use Rattle.ordering.specs.Log.{LogData}

pub party_kept : (o : OrdererData) → KeepsParty o o
party_kept o = record { endpoint = refl; sizes = refl }

pub party_kept_twice : (a b d : OrdererData) → KeepsParty a b → KeepsParty b d → KeepsParty a d
party_kept_twice a b d first then = record { endpoint = then.endpoint ∙ first.endpoint; sizes = then.sizes ∙ first.sizes }

pub same_choice : (o : OrdererData) → KeepsChoice o o
same_choice o = record { received = refl; spent = refl; logged = λ pq_entry has. has }

pub choices_twice : (a b d : OrdererData) → KeepsChoice a b → KeepsChoice b d → KeepsChoice a d
choices_twice a b d first then =
    record { received = then.received ∙ first.received; spent = then.spent ∙ first.spent; logged = λ pq_entry has. first.logged pq_entry (then.logged pq_entry has) }

pub same_log : (log : LogData) → IsSameLog log log
same_log log = record { me = refl; faults = refl; span = refl; view = refl; active = refl; low = omega arith }

pub same_orderer : (o : OrdererData) → IsSameOrderer o o
same_orderer o = record { endpoint = refl; log = same_log o.log; target = refl; choice = λ off. same_choice o }

pub logs_twice : (a b d : LogData) → IsSameLog a b → IsSameLog b d → IsSameLog a d
logs_twice a b d first then = record {
  me = then.me ∙ first.me;
  faults = then.faults ∙ first.faults;
  span = then.span ∙ first.span;
  view = then.view ∙ first.view;
  active = then.active ∙ first.active;
  low = let l = first.low in let m = then.low in omega (arith, l, m);
}

pub orderers_twice : (a b d : OrdererData) → IsSameOrderer a b → IsSameOrderer b d → IsSameOrderer a d
orderers_twice a b d first then =
    record {
      endpoint = then.endpoint ∙ first.endpoint;
      log = logs_twice a.log b.log d.log first.log then.log;
      target = then.target ∙ first.target;
      choice = λ off. choices_twice a b d (first.choice off) (then.choice (first.log.active ∙ off));
    }

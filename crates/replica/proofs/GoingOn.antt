-- Votes that the replica sends, and the executions after them.
use Rattle.std.proofs.Common.{◌≡◌, ◌≢◌, ℕ, Bool, true, false, List, [], refl, sym, ◌∙◌, subst, ◌==◌, eqb-true, ap}
use Rattle.std.proofs.lemmas.Bool.{eqb-false}
use Rattle.events.specs.declared.output.Output.{Output}
use Rattle.ordering.specs.Log.{LogData}
use Rattle.orderer.specs.State.{OrdererData}
use Rattle.replica.specs.State.{BothPartsData, AreOne, Gives}
use Rattle.protocol.specs.System.Configuration.{Configuration}
use Rattle.replica_histories.specs.Events.{Start}
use Rattle.replica.specs.Desks.{PartsFitEvent}
use Rattle.replica.specs.Going.{FitIsKept, ExecutesAll, GoesOnWith}
use Rattle.orderer.specs.Multicasting.{GoesAgain, MulticastsVotes, OutputsHaveAll, OutputsHaveViewChange, MulticastsLastAlso}
use Rattle.desk.specs.DeskOf.{desk_of}
use Rattle.orderer.specs.Fitting.{FitsEvent}
use Rattle.orderer.specs.Going.{KeepsFitting, NoVoteIsDue, IsVotedBut, IsVotedAll}
use Rattle.orderer.proofs.Parties.{orderers_twice}
use Rattle.replica.proofs.Parties.{gives_on}
use Rattle.replica.specs.Numbering.{AllAgain}

-- what the orderer sends stands on the same desk
pub said_stands : (a : BothPartsData) (o : OrdererData) (x y : List Output) → AreOne a.orderer a.desk → KeepsFitting a.orderer x o y → FitIsKept a x (record a { orderer = o }) y
said_stands a o x y one goes c s known st = record {
  is = st.is;
  fits = subst (λ (m : ℕ). FitsEvent c m s o (desk_of c a.desk) a.desk.waiting [] y) (sym one.0)
      (goes c s (desk_of c a.desk) a.desk.waiting [] known (subst (λ (m : ℕ). FitsEvent c m s a.orderer (desk_of c a.desk) a.desk.waiting [] x) one.0 st.fits));
}

-- what the replica sends again, from the event's beginning on
pub again_stands : (a : BothPartsData) (y : List Output) → AreOne a.orderer a.desk → GoesAgain 0 a.orderer [] a.orderer y → (c : Configuration) (s : Start) → Gives c a.orderer → PartsFitEvent c s a.orderer a.desk [] []
    → PartsFitEvent c s a.orderer a.desk [] y
again_stands a y one goes c s known st = record {
  is = st.is;
  fits = subst (λ (m : ℕ). FitsEvent c m s a.orderer (desk_of c a.desk) a.desk.waiting [] y) (sym one.0)
      (goes c s (desk_of c a.desk) a.desk.waiting known tt (subst (λ (m : ℕ). FitsEvent c m s a.orderer (desk_of c a.desk) a.desk.waiting [] []) one.0 st.fits));
}

-- if the log asks for votes of one number alone, and these are sent, it asks for none
pub all_voted : (number : ℕ) (old new : LogData) → ((i : ℕ) → i ≢ number → NoVoteIsDue old i → NoVoteIsDue new i) → NoVoteIsDue new number → IsVotedBut number old → IsVotedAll new
all_voted number old new others here but i = go (i == number) refl
  where
    go : (b : Bool) → (i == number) ≡ b → NoVoteIsDue new i
    go true e = subst (NoVoteIsDue new) (sym (eqb-true i number e)) here
    go false e = others i (eqb-false i number e) (but i (eqb-false i number e))

pub goes_on_with : (number : ℕ) (a : BothPartsData) (o : OrdererData) (d : BothPartsData) (x y z : List Output) → AreOne a.orderer a.desk → MulticastsVotes number a.orderer x o y
    → ExecutesAll (record a { orderer = o }) y d z → GoesOnWith number a x d z
goes_on_with number a o d x y z one v e = record {
  proceeds = λ but c s known st. e.proceeds (voted but) c s (gives_on c a.orderer o v.says.same.endpoint known) (said_stands a o x y one v.says.goes c s known st);
  party = record {
    orderer = orderers_twice a.orderer o d.orderer v.says.same e.party.orderer;
    me = e.party.me;
    membership = e.party.membership;
  };
  rises = e.rises;
  used = e.used ∙ v.says.used;
  waiting = e.waiting;
  rests = λ but. e.rests (voted but);
}
  where
    voted : IsVotedBut number a.orderer.log → IsVotedAll o.log
    voted = all_voted number a.orderer.log o.log v.says.others v.said

-- ---- the same with the desk

pub all_again : (a new : BothPartsData) (o : OrdererData) (before after : List Output) → a.orderer.log.active ≡ true → MulticastsLastAlso true 0 (OutputsHaveAll a.desk.executed.state.number) a.orderer before o after
    → new ≡ record a { orderer = o } → AllAgain a before new after
all_again a new o before after at says is = record {
  same = is ∙ ap (λ (k : OrdererData). record a { orderer = k }) says.0.same;
  goes = subst (λ (k : OrdererData). GoesAgain 0 a.orderer before k after) says.0.same (says.0.goes at);
  active = λ active. says.1;
  inactive = λ inactive. absurd (let bad : true ≡ false = sym at ∙ inactive in cc);
}

pub change_only : (a new : BothPartsData) (o : OrdererData) (before after : List Output) → a.orderer.log.active ≡ false → MulticastsLastAlso false 0 OutputsHaveViewChange a.orderer before o after → new ≡ record a { orderer = o }
    → AllAgain a before new after
change_only a new o before after at says is = record {
  same = is ∙ ap (λ (k : OrdererData). record a { orderer = k }) says.0.same;
  goes = subst (λ (k : OrdererData). GoesAgain 0 a.orderer before k after) says.0.same (says.0.goes at);
  active = λ active. absurd (let bad : false ≡ true = sym at ∙ active in cc);
  inactive = λ inactive. says.1;
}

use Rattle.std.proofs.Common.{Option, Some, ap, ◌∙◌, subst}
use Rattle.execution.specs.Executed.{ExecutedData}
use Rattle.state_transfer.specs.declared.place.Place.{Place}
use Rattle.desk.specs.State.{DeskData}
use Rattle.desk.specs.DeskView.{desk_data}
use Rattle.desk.specs.Transferring.{AsksPlace}
use Rattle.desk.proofs.desk.Desk.has_next_part.Goals as goal

pub returns : goal.returns
returns c =
    let old : DeskData = desk_data c.self.inside in
    let lent = c.deref_mut.ensures.value in
    record {
      ok = rw (← c.self.view_is) (
        c.in-Some.open,
        c.next_fetch.new.self,
        c.in-Some-2._place,
        c.in-Some.is,
        ap (λ (e : ExecutedData). record old { executed = e; transfer = Some c.next_fetch.new.self }) (c.in_ok-_place.ensures.same ∙ lent),
        subst (λ (e : ExecutedData). AsksPlace e.state c.in-Some.open c.next_fetch.new.self (Some c.in-Some-2._place)) lent
            (subst (λ (place : Option Place). AsksPlace c.deref_mut.result.now.state c.in-Some.open c.next_fetch.new.self place) c.in-Some-2.is c.in_ok-_place.ensures.asks),
      );
      party = record {
        me = ap (λ (d : DeskData). d.me) c.self.view_is;
        membership = ap (λ (d : DeskData). d.membership) c.self.view_is;
        period = ap (λ (d : DeskData). d.period) c.self.view_is;
      };
    }

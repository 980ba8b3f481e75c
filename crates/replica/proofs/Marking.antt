-- The marks move.
use Rattle.std.proofs.Common.{◌≡◌, ℕ, ap, ◌∙◌}
use Rattle.orderer.specs.State.{OrdererData}
use Rattle.replica.specs.State.{BothPartsData}
use Rattle.desk.specs.State.{DeskData}
use Rattle.orderer.specs.PqSets.{CutsLog}
use Rattle.desk.specs.Desking.{desk_above}
use Rattle.replica.specs.Marking.{MovesMarks}

-- the orderer's move first, and then the desk's, to the low mark that the orderer has then
pub moves_so : (low at : ℕ) (old mid new : BothPartsData) (o : OrdererData) (desk : DeskData) → CutsLog low old.orderer o → mid ≡ record old { orderer = o } → at ≡ mid.orderer.log.low
    → desk ≡ desk_above at mid.desk → new ≡ record mid { desk = desk } → MovesMarks low old new
moves_so low at old mid new o desk cuts mid_is at_is desk_is new_is = (
  o,
  cuts,
  new_is
      ∙ ap (λ (d : DeskData). let r : BothPartsData = record mid { desk = d } in r) desk_is
      ∙ ap (λ (n : ℕ). let r : BothPartsData = record mid { desk = desk_above n mid.desk } in r) at_is
      ∙ ap (λ (m : BothPartsData). let r : BothPartsData = record m { desk = desk_above m.orderer.log.low m.desk } in r) mid_is
      ∙ ap (λ (k : OrdererData). let r : BothPartsData = record old { orderer = o; desk = desk_above k.log.low old.desk } in r) cuts.2,
)

use Rattle.replica.proofs.PartsLead.{one_period}
use Rattle.replica.proofs.parted.Orderer.goes_with.Goals as goal

pub returns-then-is_same : goal.returns-then-is_same
returns-then-is_same c = rw (← c.self.view_is, ← c.desk.view_is) (
  λ same. record {
    member = c.is_same.ensures.0 c.if-is_same.true;
    orderer = c.in-Some-Some.orderer;
    desk = c.in-Some-Some.state;
    orders = c.in-Some-Some.is-0;
    answers = c.in-Some-Some.is-1;
    period = c.have_one_period.ensures.0 same;
  },
  λ together. c.have_one_period.ensures.1 (one_period _ _ c.in-Some-Some.orderer c.in-Some-Some.state together c.in-Some-Some.is-0 c.in-Some-Some.is-1),
)

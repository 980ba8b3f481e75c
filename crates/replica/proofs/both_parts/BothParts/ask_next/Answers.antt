use Rattle.std.proofs.Common.{Bool, refl, subst}
use Rattle.desk.specs.Fetching.{AsksPart}
use Rattle.replica.proofs.both_parts.BothParts.ask_next.Goals as goal

pub returns-then-not-branch-clause-ok : goal.returns-then-not-branch-clause-ok
returns-then-not-branch-clause-ok c = rw (← c.self.view_is) (
  c.has_next_part.new.self,
  subst (λ (b : Bool). AsksPart c.self.inside.desk c.has_next_part.new.self b) c.if-not-branch.true c.in_ok-has_next_part.ensures.ok,
  refl,
  refl,
)

pub returns-clause-ok : goal.returns-clause-ok
returns-clause-ok c = rw (← c.self.view_is, c.in_ok-multicast_fetch.ensures.same) (
  c.has_next_part.new.self,
  subst (λ (b : Bool). AsksPart c.self.inside.desk c.has_next_part.new.self b) c.if-not-branch.false c.in_ok-has_next_part.ensures.ok,
  refl,
  c.in_ok-multicast_fetch.ensures.ok,
)

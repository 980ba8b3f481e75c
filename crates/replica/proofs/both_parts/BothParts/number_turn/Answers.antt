use Rattle.std.proofs.Common.{rules, ◌≤◌, length, subst, arith}
use Rattle.replica.specs.State.{BothPartsData, AreOne}
use Rattle.desk.specs.Waiting.{unnumbered}
use Rattle.replica.proofs.NumbersGiven.{gives_number}
use Rattle.replica.proofs.both_parts.BothParts.number_turn.Goals as goal

pub returns : goal.returns
returns c = record {
  ok = gives_number c.in-Some.number.0 c.args.self.now c.number_next.new.self c.args.outputs.now.items c.number_next.new.outputs.items
      (subst (λ (r : BothPartsData). AreOne r.orderer r.desk) c.self.view_is c.self.invariant)
      c.in-Some.ensures.next
      (let next = c.in-Some.ensures.next in let near = c.in-Some.ensures.free.2 in omega (arith, next, near))
      c.in-Some.ensures.within
      c.in-Some.ensures.free.3
      c.in-Some.ensures.free.0
      (subst (λ (r : BothPartsData). 1 ≤ length (unnumbered r.desk.waiting)) c.self.view_is (c.has_unnumbered.ensures.some c.if-not-has_unnumbered.false))
      c.in_ok-number_next.ensures.ok c.advance.new.self c.advance.new.outputs.items c.in_ok-advance.ensures.ok;
  party = search rules;
}

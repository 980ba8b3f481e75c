use Rattle.std.proofs.Common.{rules, ◌≡◌, Bool, ap, subst, arith}
use Rattle.replica.specs.State.{BothPartsData}
use Rattle.desk.specs.Waiting.{count_unnumbered}
use Rattle.replica.specs.NumbersNext.{NumbersTurn}
use Rattle.replica.proofs.NumbersGiven.{none_given, one_given, numbers_stop, numbers_end}
use Rattle.replica.proofs.Parties.{one_of_same}
use Rattle.replica.proofs.both_parts.BothParts.number_waiting.Goals as goal

pub loop-init : goal.loop-init
loop-init c = none_given c.args.self.now c.args.outputs.now.items

pub returns-then-not-branch : goal.returns-then-not-branch
returns-then-not-branch c = record {
  ok = numbers_stop c.loop.counter c.args.self.now c.loop.self c.number_turn.new.self c.args.outputs.now.items c.loop.outputs.items c.number_turn.new.outputs.items c.loop.invariant
      (subst (λ (b : Bool). NumbersTurn c.loop.self c.loop.outputs.items c.number_turn.new.self c.number_turn.new.outputs.items b) c.if-not-branch.true c.in_ok-number_turn.ensures.ok);
  party = search rules;
}

pub loop-preserved : goal.loop-preserved
loop-preserved c =
    one_given c.loop.counter c.args.self.now c.loop.self c.number_turn.new.self c.args.outputs.now.items c.loop.outputs.items c.number_turn.new.outputs.items c.loop.invariant
    (subst (λ (b : Bool). NumbersTurn c.loop.self c.loop.outputs.items c.number_turn.new.self c.number_turn.new.outputs.items b) c.if-not-branch.false c.in_ok-number_turn.ensures.ok)

pub returns : goal.returns
returns c =
    let some : c.count_unnumbered-end.result ≡ count_unnumbered c.self.inside.desk.waiting = search rules in
    let same = ap (λ (r : BothPartsData). count_unnumbered r.desk.waiting) c.self.view_is in
    let few = c.loop.auto.counter-end in
    let all = c.loop-test.false in
    let whole : c.loop.counter ≡ count_unnumbered c.args.self.now.desk.waiting = omega (arith, some, same, few, all) in
    record {
      ok = numbers_end c.loop.counter c.args.self.now c.loop.self c.args.outputs.now.items c.loop.outputs.items whole c.loop.invariant;
      party = one_of_same _ _ c.loop.invariant.party;
    }

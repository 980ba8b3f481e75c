use Rattle.std.proofs.Common.{rules, ◌≡◌, Bool, ap, subst, arith}
use Rattle.replica.specs.State.{BothPartsData}
use Rattle.replica.specs.Going.{ExecutesTurn}
use Rattle.replica.proofs.Executions.{none_executed, one_executed, executes_stop, executes_end}
use Rattle.replica.proofs.Parties.{one_of_same}
use Rattle.replica.proofs.both_parts.BothParts.execute_committed.Goals as goal

pub loop-init : goal.loop-init
loop-init c = none_executed c.args.self.now c.args.outputs.now.items

pub returns-then-not-branch : goal.returns-then-not-branch
returns-then-not-branch c = record {
  ok = executes_stop c.loop.counter c.args.self.now c.loop.self c.execute_next.new.self c.args.outputs.now.items c.loop.outputs.items c.execute_next.new.outputs.items c.loop.invariant
      (subst (λ (b : Bool). ExecutesTurn c.loop.self c.loop.outputs.items c.execute_next.new.self c.execute_next.new.outputs.items b) c.if-not-branch.true c.in_ok-execute_next.ensures.ok);
  party = search rules;
}

pub loop-preserved : goal.loop-preserved
loop-preserved c =
    one_executed c.loop.counter c.args.self.now c.loop.self c.execute_next.new.self c.args.outputs.now.items c.loop.outputs.items c.execute_next.new.outputs.items c.loop.invariant
    (subst (λ (b : Bool). ExecutesTurn c.loop.self c.loop.outputs.items c.execute_next.new.self c.execute_next.new.outputs.items b) c.if-not-branch.false c.in_ok-execute_next.ensures.ok)

pub returns : goal.returns
returns c =
    let span : c.span-end.result ≡ c.self.inside.orderer.log.span = search rules in
    let same = ap (λ (r : BothPartsData). r.orderer.log.span) c.self.view_is in
    let few = c.loop.auto.counter-end in
    let all = c.loop-test.false in
    let whole : c.loop.counter ≡ c.args.self.now.orderer.log.span = omega (arith, span, same, few, all) in
    record {
      ok = executes_end c.loop.counter c.args.self.now c.loop.self c.args.outputs.now.items c.loop.outputs.items whole c.loop.invariant;
      party = one_of_same _ _ c.loop.invariant.party;
    }

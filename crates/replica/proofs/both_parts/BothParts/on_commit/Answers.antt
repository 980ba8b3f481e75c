use Rattle.std.proofs.Common.{rules}
use Rattle.replica.specs.BothPartsView.{both_parts_data}
use Rattle.replica.proofs.Beginning.{commit_taken, commit_dropped}
use Rattle.replica.proofs.both_parts.BothParts.on_commit.Goals as goal

pub returns-then-not-take_commit : goal.returns-then-not-take_commit
returns-then-not-take_commit c = record {
  ok = rw (← c.self.view_is) (commit_dropped (both_parts_data c.self.inside) c.args.sender c.args.message.now c.take_commit.new.self c.self.invariant c.if-not-take_commit.ensures.takes);
  party = search rules;
}

pub returns : goal.returns
returns c = record {
  ok = rw (← c.self.view_is) (commit_taken (both_parts_data c.self.inside) c.args.sender c.args.message.now c.take_commit.new.self c.self.invariant c.if-not-take_commit.ensures.takes);
  party = search rules;
}

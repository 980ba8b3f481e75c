use Rattle.std.proofs.Common.{◌+◌, ◌*◌, ◌∙◌, ◌++◌, ap, sym}
use Rattle.authenticator.specs.Dealing.{keys_with}
use Rattle.authenticator.proofs.Dealing.{first_replicas, next_other, no_other}
use Rattle.authenticator.proofs.row.push_replicas.Goals as goal

pub loop-party-init : goal.loop-party-init
loop-party-init c =
    ap (λ parties. c.args.keys.now.items ++ keys_with c.args.seed.now c.args.me parties) (first_replicas c.args.seed.now c.args.faults c.args.me)

pub loop-party-preserved : goal.loop-party-preserved
loop-party-preserved c =
    next_other c.args.seed.now c.args.me (3 * c.args.faults + 1) c.loop-party.party c.loop-party.keys.items c.push_other.new.keys.items (rw c.from.ensures at c.loop-party-test.true)
    c.in_ok-push_other.ensures
    ∙ c.loop-party.invariant

pub returns : goal.returns
returns c =
    sym (no_other c.args.seed.now c.args.me (3 * c.args.faults + 1) c.loop-party.party c.loop-party.keys.items (rw c.from.ensures at c.loop-party-test.false))
    ∙ c.loop-party.invariant

use Rattle.std.proofs.Common.{◌≡◌, ◌<◌, ◌+◌, ◌*◌, ◌∙◌, ◌++◌, ap, arith, sym}
use Rattle.authenticator.specs.Dealing.{keys_with}
use Rattle.authenticator.proofs.Dealing.{first_clients, next_client, next_two, no_client}
use Rattle.authenticator.proofs.row.push_clients.Goals as goal

pub loop-pair-init : goal.loop-pair-init
loop-pair-init c = ap (λ parties. c.args.keys.now.items ++ keys_with c.args.seed.now c.args.me parties) (first_clients c.args.clients)

pub loop-pair-preserved : goal.loop-pair-preserved
loop-pair-preserved c =
    next_two c.args.seed.now c.args.me c.args.clients c.loop-pair.pair c.loop-pair.keys.items c.push_two.new.keys.items (omega (arith, c.loop-pair-test.true))
    c.in_ok-push_two.ensures
    ∙ c.loop-pair.invariant

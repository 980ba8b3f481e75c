use Rattle.std.proofs.Common.{sym}
use Rattle.party_keys.proofs.Taking.{got_more}
use Rattle.party_keys.proofs.dealing.public_keys.Goals as goal

pub loop-replica-preserved : goal.loop-replica-preserved
loop-replica-preserved c =
    got_more c.args.publics.now c.loop-replica.keys.items c.push.new.self.items c.loop-replica.replica c.in-Some.key
    (sym (c.in-Some.ensures {u = tt}).key) c.loop-replica.invariant (c.in_ok-push-in-Some.ensures {u = tt}).items

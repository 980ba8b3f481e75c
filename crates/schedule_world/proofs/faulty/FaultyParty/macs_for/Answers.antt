use Rattle.std.proofs.Common.{◌≡◌, ◌∙◌, ap, rules}
use Rattle.terms.specs.Parties.{party_number}
use Rattle.authenticator.specs.Keys.{dealt, mac_between}
use Rattle.schedule_world.proofs.Entries.{entries-push}
use Rattle.schedule_world.proofs.faulty.FaultyParty.macs_for.Goals as goal

pub loop-receiver-preserved : goal.loop-receiver-preserved
loop-receiver-preserved c =
    let seed = c.args.self.now.seed in
    let sender = party_number c.args.self.now.party in
    let it = c.loop-receiver.invariant in
    let code : c.mac_for-mac.result ≡ mac_between (dealt seed) sender (party_number c.receiver-item.result) c.args.body.now =
    rw (← it.seed, ← it.party) c.mac_for-mac.ensures.mac in
    record {
      seed = c.mac_for-mac.ensures.seed ∙ it.seed;
      party = c.mac_for-mac.ensures.party ∙ it.party;
      made = rw c.push.ensures.items
          (entries-push (dealt seed) sender c.args.body.now c.loop-receiver.macs.items c.args.receivers.now c.loop-receiver.receiver-index
          c.receiver-item.result c.mac_for-mac.result c.loop-receiver-test.true c.receiver-item.is code it.made);
      few = search rules;
    }

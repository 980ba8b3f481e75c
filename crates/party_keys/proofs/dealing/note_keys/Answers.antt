use Rattle.std.specs.Prelude.{[]}
use Rattle.party_keys.specs.PartyData.{IsKey}
use Rattle.party_keys.proofs.Taking.{all_done, all_more_at}
use Rattle.party_keys.proofs.dealing.note_keys.Goals as goal

pub loop-key-preserved : goal.loop-key-preserved
loop-key-preserved c = all_more_at IsKey c.args.keys.now c.loop-key.key-index [] c.loop-key-test.true c.loop-key.invariant c.note_key.ensures

pub returns : goal.returns
returns c = all_done IsKey c.args.keys.now c.loop-key.key-index c.loop-key-test.false c.loop-key.invariant

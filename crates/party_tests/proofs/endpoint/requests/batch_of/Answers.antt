use Rattle.party_tests.proofs.Batches.{batch_of_one}
use Rattle.party_tests.proofs.endpoint.requests.batch_of.Goals as goal

pub returns : goal.returns
returns c = batch_of_one c.of.result c.args.frame.items c.requires c.of.ensures.text

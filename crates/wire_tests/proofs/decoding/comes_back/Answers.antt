use Rattle.wire_format.specs.Views.{message_data, authenticator_data}
use Rattle.wire_format.proofs.Counting.{counts_fit, authenticator_fits}
use Rattle.wire_tests.proofs.decoding.comes_back.Goals as goal

pub is_written-is_back-requires-clause-body : goal.is_written-is_back-requires-clause-body
is_written-is_back-requires-clause-body c = counts_fit (message_data c.in_ok-frame.frame.body.message) c.in_ok-frame.ensures.found.valid.message

pub is_written-is_back-requires-clause-authenticator : goal.is_written-is_back-requires-clause-authenticator
is_written-is_back-requires-clause-authenticator c = authenticator_fits (authenticator_data c.in_ok-frame.frame.authenticator) c.in_ok-frame.ensures.found.valid.authenticator

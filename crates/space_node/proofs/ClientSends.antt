-- A client may go to another thread.
use denote.Param.Send.{IsSend, sendable}
use denote.Param.SendFields.{declared_send}
use Rattle.std.proofs.option.Option.TheSendSync.{the_send as option_send}
use Rattle.authenticator.proofs.ring.Ring.TheSendSync.{the_send as ring_send}
use Rattle.signing.proofs.public_keys.PublicKeys.TheSendSync.{the_send as publics_send}
use Rattle.client_cert.proofs.ballots.Ballots.TheSendSync.{the_send as ballots_send}
use Rattle.client_cert.specs.contracts.call.Call as call
use Rattle.client_cert.specs.contracts.call.Call.TheInside as in_call
use Rattle.client_cert.specs.contracts.client.Client as client
use Rattle.client_cert.specs.contracts.client.Client.TheInside as in_client
use Rattle.space_node.proofs.Sends.{op_send}

in_call_send : IsSend in_call.the_row
in_call_send = declared_send in_call.the_type (
  op_send,
  (search sendable, (search (sendable, ballots_send), (search (sendable, ballots_send), tt))),
)

call_send : IsSend call.the_row
call_send = search (sendable, in_call_send)

in_client_send : IsSend in_client.the_row
in_client_send = declared_send in_client.the_type (
  search sendable,
  (
    search sendable,
    (
      search (sendable, ring_send),
      (search (sendable, publics_send), (search sendable, (option_send call.the_row call_send, (search sendable, tt)))),
    ),
  ),
)

pub client_send : IsSend client.the_row
client_send = search (sendable, in_client_send)

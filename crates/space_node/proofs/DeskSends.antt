-- A replica's desk may go to another thread.
use denote.Hole.{as_row}
use denote.Param.Send.{IsSend, sendable}
use denote.Param.SendFields.{as_row_send, declared_send}
use Rattle.std.specs.contracts.alloc.Global as heap
use Rattle.std.below.std_heap.specs.contracts.GlobalAllocator.TheImpl.{ghosts}
use Rattle.std.specs.contracts.boxed.Box as box
use Rattle.std.proofs.boxed.Box.TheSendSync.{the_send as box_send}
use Rattle.std.proofs.option.Option.TheSendSync.{the_send as option_send}
use Rattle.authenticator.proofs.ring.Ring.TheSendSync.{the_send as ring_send}
use Rattle.signing.proofs.public_keys.PublicKeys.TheSendSync.{the_send as publics_send}
use Rattle.replica.proofs.member.Member.TheSendSync.{the_send as member_send}
use Rattle.desk.proofs.snapshots.Snapshots.TheSendSync.{the_send as snapshots_send}
use Rattle.desk.proofs.transfer.StateTransfer.TheSendSync.{the_send as transfer_send}
use Rattle.desk.proofs.waiting.Waiting.TheSendSync.{the_send as waiting_send}
use Rattle.desk.specs.contracts.transfer.StateTransfer as transfer
use Rattle.desk.specs.contracts.desk.Desk as state
use Rattle.desk.specs.contracts.desk.Desk.TheInside as in_state
use Rattle.replica.specs.contracts.parted.Desk as desk
use Rattle.replica.specs.contracts.parted.Desk.TheInside as in_desk
use Rattle.authenticator.specs.contracts.ring.Ring as ring
use Rattle.execution.specs.contracts.executed.Executed as executed
use Rattle.space_node.proofs.Sends.{heap_send, heap_frees}
use Rattle.space_node.proofs.StateSends.{executed_send}

boxed_send : IsSend (as_row (box.the_field executed.the_row heap.the_row ghosts))
boxed_send = as_row_send (box.the_field executed.the_row heap.the_row ghosts)
    (box_send executed.the_row heap.the_row ghosts executed_send heap_send heap_frees)

keys_send : IsSend (as_row (box.the_field ring.the_row heap.the_row ghosts))
keys_send = as_row_send (box.the_field ring.the_row heap.the_row ghosts)
    (box_send ring.the_row heap.the_row ghosts ring_send heap_send heap_frees)

in_state_send : IsSend in_state.the_row
in_state_send = declared_send in_state.the_type (
  search sendable,
  (
    keys_send,
    (
      search (sendable, publics_send),
      (
        search sendable,
        (
          boxed_send,
          (
            search (sendable, snapshots_send),
            (option_send transfer.the_row (search (sendable, transfer_send)), (search (sendable, waiting_send), tt)),
          ),
        ),
      ),
    ),
  ),
)

state_send : IsSend state.the_row
state_send = search (sendable, in_state_send)

in_desk_send : IsSend in_desk.the_row
in_desk_send =
    declared_send in_desk.the_type (search (sendable, member_send), (option_send state.the_row state_send, tt))

pub desk_send : IsSend desk.the_row
desk_send = search (sendable, in_desk_send)

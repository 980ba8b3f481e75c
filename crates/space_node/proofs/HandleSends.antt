-- A client's handle may go to another thread.
use denote.RattleType.{RattleType}
use denote.Param.Send.{IsSend, sendable}
use denote.Param.SendFields.{as_row_send, declared_send}
use Rattle.std.specs.contracts.alloc.Global as heap
use Rattle.std.below.std_heap.specs.contracts.GlobalAllocator.TheImpl.{ghosts}
use Rattle.std.specs.contracts.sync.Arc as arc
use Rattle.journal.specs.declared.naming.Naming.{Ghosts}
use Rattle.space_node.specs.contracts.handle_state.HandleState as state
use Rattle.space_node.specs.contracts.handle_state.HandleState.TheInside as in_handle_state
use Rattle.space_node.specs.contracts.handle.ClientHandle as handle
use Rattle.space_node.specs.contracts.handle.ClientHandle.TheInside as in_handle
use Rattle.space_node.specs.contracts.shared.Shared as shared
use Rattle.space_node.proofs.ClientSends.{client_send}
use Rattle.space_node.proofs.JournalSends.{share_send}
use Rattle.space_node.proofs.NodeSends.{inbox_send, counted_shared_send}

module _ (N : RattleType) (g : Ghosts N.Denot) where
  in_handle_state_send : IsSend (in_handle_state.the_row N g)
  in_handle_state_send = declared_send (in_handle_state.the_type N g) (
    search sendable,
    (client_send, (search sendable, (search sendable, (share_send N g, tt)))),
  )

  handle_state_send : IsSend (state.the_row N g)
  handle_state_send = search (sendable, in_handle_state_send)

  in_handle_send : IsSend (in_handle.the_row N g)
  in_handle_send = declared_send (in_handle.the_type N g) (
    handle_state_send,
    (as_row_send (arc.the_field (shared.the_row N g) heap.the_row ghosts) (counted_shared_send N g), (inbox_send, tt)),
  )

  pub handle_send : IsSend (handle.the_row N g)
  handle_send = search (sendable, in_handle_send)

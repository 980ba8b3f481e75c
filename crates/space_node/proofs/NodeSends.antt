-- The state that the threads of a cluster share may be reached from each of them.
use denote.RattleType.{RattleType}
use denote.Hole.{as_row}
use denote.Param.Send.{IsSend, IsSync, sendable}
use denote.Param.SendFields.{as_row_sync, declared_send, declared_sync}
use Rattle.std.specs.contracts.alloc.Global as heap
use Rattle.std.below.std_heap.specs.contracts.GlobalAllocator.TheImpl.{ghosts}
use Rattle.std.specs.contracts.sync.Arc as arc
use Rattle.std.specs.contracts.vec.Vec as vec
use Rattle.std.proofs.sync.atomic.AtomicU64.TheSendSync.{the_send as word_send, the_sync as word_sync}
use Rattle.std.proofs.sync.Mutex.TheSendSync.{the_send as mutex_send, the_sync as mutex_sync}
use Rattle.std.proofs.vec.Vec.TheSendSync.{the_sync as vec_sync}
use Rattle.crossbeam_channel.specs.contracts.channel.Receiver as receiver
use Rattle.crossbeam_channel.specs.contracts.channel.Sender as sender
use Rattle.crossbeam_channel.proofs.channel.Receiver.TheSendSync.{the_send as receiver_send}
use Rattle.crossbeam_channel.proofs.channel.Sender.TheSendSync.{the_send as sender_send, the_sync as sender_sync}
use Rattle.journal.specs.declared.naming.Naming.{Ghosts}
use Rattle.journal.specs.contracts.locked.Journal as journal
use Rattle.replica.proofs.parted.Orderer.TheSendSync.{the_send as orderer_send}
use Rattle.space_node.proofs.inbox.InboxMessage.TheSendSync.{the_send as note_send}
use Rattle.space_node.specs.contracts.inbox.InboxMessage as note
use Rattle.space_node.specs.contracts.inbox.Inbox as inbox
use Rattle.space_node.specs.contracts.node_order.NodeOrder as node_order
use Rattle.space_node.specs.contracts.node_order.NodeOrder.TheInside as in_node_order
use Rattle.space_node.specs.contracts.node_desk.NodeDesk as node_desk
use Rattle.space_node.specs.contracts.node_desk.NodeDesk.TheInside as in_node_desk
use Rattle.space_node.specs.contracts.shared.Inboxes as inboxes
use Rattle.space_node.specs.contracts.shared.Node as node
use Rattle.space_node.specs.contracts.shared.Shared as shared
use Rattle.space_node.proofs.Sends.{heap_send, heap_frees, heap_sync, counted_send, vec_field}
use Rattle.space_node.proofs.DeskSends.{desk_send}
use Rattle.space_node.proofs.JournalSends.{journal_send, share_send, order_share_send}

vec_field_sync : (R : RattleType) → IsSync R → IsSync (as_row (vec.the_field R heap.the_row ghosts))
vec_field_sync R s =
    as_row_sync (vec.the_field R heap.the_row ghosts) (vec_sync R heap.the_row ghosts s heap_sync)

-- ---- inboxes

sender_of_notes_send : IsSend (sender.the_row note.the_row heap.the_row ghosts)
sender_of_notes_send = sender_send note.the_row heap.the_row ghosts note_send heap_send heap_sync heap_frees

sender_of_notes_sync : IsSync (sender.the_row note.the_row heap.the_row ghosts)
sender_of_notes_sync = sender_sync note.the_row heap.the_row ghosts note_send heap_send heap_sync heap_frees

to_inbox_send : IsSend inbox.the_row
to_inbox_send = declared_send inbox.the_type (sender_of_notes_send, (search (sendable, word_send), (search (sendable, word_send), tt)))

to_inbox_sync : IsSync inbox.the_row
to_inbox_sync = declared_sync inbox.the_type (sender_of_notes_sync, (search (sendable, word_sync), (search (sendable, word_sync), tt)))

inboxes_send : IsSend inboxes.the_row
inboxes_send = declared_send inboxes.the_type (to_inbox_send, (to_inbox_send, tt))

inboxes_sync : IsSync inboxes.the_row
inboxes_sync = declared_sync inboxes.the_type (to_inbox_sync, (to_inbox_sync, tt))

pub inbox_send : IsSend (receiver.the_row note.the_row heap.the_row ghosts)
inbox_send = receiver_send note.the_row heap.the_row ghosts note_send heap_send heap_sync heap_frees

-- ---- the values behind the locks

module _ (N : RattleType) (g : Ghosts N.Denot) where
  in_node_order_send : IsSend (in_node_order.the_row N g)
  in_node_order_send = declared_send (in_node_order.the_type N g) (search (sendable, orderer_send), (order_share_send N g, tt))

  node_order_send : IsSend (node_order.the_row N g)
  node_order_send = search (sendable, in_node_order_send)

  in_node_desk_send : IsSend (in_node_desk.the_row N g)
  in_node_desk_send = declared_send (in_node_desk.the_type N g) (desk_send, (share_send N g, tt))

  node_desk_send : IsSend (node_desk.the_row N g)
  node_desk_send = search (sendable, in_node_desk_send)

  node_send : IsSend (node.the_row N g)
  node_send = declared_send (node.the_type N g) (
    search sendable,
    (mutex_send (node_order.the_row N g) node_order_send, (mutex_send (node_desk.the_row N g) node_desk_send, tt)),
  )

  node_sync : IsSync (node.the_row N g)
  node_sync = declared_sync (node.the_type N g) (
    search sendable,
    (mutex_sync (node_order.the_row N g) node_order_send, (mutex_sync (node_desk.the_row N g) node_desk_send, tt)),
  )

  shared_send : IsSend (shared.the_row N g)
  shared_send = declared_send (shared.the_type N g) (
    mutex_send (journal.the_row N g) (journal_send N g),
    (
      vec_field (node.the_row N g) node_send,
      (
        vec_field inboxes.the_row inboxes_send,
        (vec_field inbox.the_row to_inbox_send, tt),
      ),
    ),
  )

  shared_sync : IsSync (shared.the_row N g)
  shared_sync = declared_sync (shared.the_type N g) (
    mutex_sync (journal.the_row N g) (journal_send N g),
    (
      vec_field_sync (node.the_row N g) node_sync,
      (
        vec_field_sync inboxes.the_row inboxes_sync,
        (vec_field_sync inbox.the_row to_inbox_sync, tt),
      ),
    ),
  )

  pub counted_shared_send : IsSend (arc.the_row (shared.the_row N g) heap.the_row ghosts)
  counted_shared_send = counted_send (shared.the_row N g) shared_send shared_sync

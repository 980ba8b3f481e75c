-- Operations, answers and entries may go to another thread, and operations and answers may be reached from several.
-- What the prover finds of each type by itself is put together here, each once, on the heap.
use denote.RattleType.{RattleType}
use denote.Hole.{as_row}
use denote.Param.Send.{IsSend, IsSync, Frees, sendable}
use denote.Param.SendFields.{as_row_send, variants_send, declared_send}
use Rattle.std.specs.contracts.alloc.Global as heap
use Rattle.std.below.std_heap.specs.contracts.GlobalAllocator.TheImpl.{ghosts}
use Rattle.std.specs.contracts.sync.Arc as arc
use Rattle.std.specs.contracts.vec.Vec as vec
use Rattle.std.proofs.alloc.Global.TheSendSync.{the_send as global_send, the_sync as global_sync}
use Rattle.std.below.std_heap.proofs.GlobalAllocator.TheSendSync.{the_frees as global_frees}
use Rattle.std.proofs.sync.Arc.TheSendSync.{the_send as arc_send}
use Rattle.std.proofs.vec.Vec.TheSendSync.{the_send as vec_send}
use Rattle.terms.proofs.parties.Party.TheSendSync.{the_send as party_send}
use Rattle.tuple_tree.proofs.tuples.Tuple.TheSendSync.{the_send as tuple_sends}
use Rattle.tuple_codec.proofs.operations.Op.TheSendSync.{the_send as op_sends, the_sync as op_syncs}
use Rattle.tuple_codec.proofs.operations.Answer.TheSendSync.{the_send as answer_sends, the_sync as answer_syncs}
use Rattle.tuple_tree.specs.contracts.tuples.Tuple as tuple
use Rattle.tuple_codec.specs.contracts.operations.Op as op
use Rattle.tuple_codec.specs.contracts.operations.Answer as answer
use Rattle.events.proofs.shared_bytes.SharedBytes.TheSendSync.{the_send as shared_send}
use Rattle.events.specs.contracts.entry.EntryKind as entry_kind
use Rattle.events.specs.contracts.entry.Entry as entry
use Rattle.events.specs.contracts.entry.Entry.TheInside as in_entry

pub heap_send : IsSend heap.the_row
heap_send = search (sendable, global_send)

pub heap_frees : Frees ghosts ghosts.dealloc_token
heap_frees = global_frees

pub heap_sync : IsSync heap.the_row
heap_sync = search (sendable, global_sync)

pub counted_send : (R : RattleType) → IsSend R → IsSync R → IsSend (arc.the_row R heap.the_row ghosts)
counted_send R s t = arc_send R heap.the_row ghosts s heap_send t heap_sync heap_frees

pub vec_field : (R : RattleType) → IsSend R → IsSend (as_row (vec.the_field R heap.the_row ghosts))
vec_field R r = as_row_send (vec.the_field R heap.the_row ghosts) (vec_send R heap.the_row ghosts r heap_send heap_frees)

pub tuple_send : IsSend (tuple.the_row heap.the_row ghosts)
tuple_send = tuple_sends heap.the_row ghosts heap_send heap_frees

pub op_send : IsSend (op.the_row heap.the_row ghosts)
op_send = op_sends heap.the_row ghosts heap_send heap_frees

pub answer_send : IsSend (answer.the_row heap.the_row ghosts)
answer_send = answer_sends heap.the_row ghosts heap_send heap_frees

-- ---- entries

shared_op_send : IsSend (arc.the_row (op.the_row heap.the_row ghosts) heap.the_row ghosts)
shared_op_send = counted_send (op.the_row heap.the_row ghosts) op_send (op_syncs heap.the_row ghosts heap_sync)

shared_answer_send : IsSend (arc.the_row (answer.the_row heap.the_row ghosts) heap.the_row ghosts)
shared_answer_send =
    counted_send (answer.the_row heap.the_row ghosts) answer_send (answer_syncs heap.the_row ghosts heap_sync)

entry_kind_send : IsSend entry_kind.the_row
entry_kind_send = variants_send entry_kind.enum (
  (search sendable, (search sendable, (shared_op_send, tt))),
  (
    (search (sendable, party_send), (search (sendable, shared_send), tt)),
    (
      (search (sendable, party_send), tt),
      (
        (search sendable, (search sendable, (search (sendable, shared_send), tt))),
        (
          (search sendable, (search sendable, (search (sendable, arc_send, heap_send, heap_sync, heap_frees), tt))),
          (
            (search (sendable, party_send), (search (sendable, shared_send), tt)),
            (
              (search sendable, (search sendable, (shared_answer_send, tt))),
              tt,
            ),
          ),
        ),
      ),
    ),
  ),
)

in_entry_send : IsSend in_entry.the_row
in_entry_send = declared_send in_entry.the_type (entry_kind_send, tt)

pub entry_send : IsSend entry.the_row
entry_send = search (sendable, in_entry_send)

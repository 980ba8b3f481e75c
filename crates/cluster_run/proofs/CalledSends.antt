-- The result of a client's thread may go to the thread that joins it.
use denote.RattleType.{RattleType}
use denote.Param.Send.{IsSend, sendable}
use denote.Param.SendFields.{declared_send}
use Rattle.std.specs.contracts.alloc.Global as heap
use Rattle.std.below.std_heap.specs.contracts.GlobalAllocator.TheImpl.{ghosts}
use Rattle.std.specs.contracts.vec.Vec as vec
use Rattle.std.proofs.vec.Vec.TheSendSync.{the_send as vec_send}
use Rattle.std.proofs.result.Result.TheSendSync.{the_send as result_send}
use Rattle.journal.specs.declared.naming.Naming.{Ghosts}
use Rattle.tuple_codec.specs.contracts.operations.Answer as answer
use Rattle.space_node.proofs.Sends.{heap_send, heap_frees, answer_send}
use Rattle.space_node.proofs.HandleSends.{handle_send}
use Rattle.cluster_run.specs.contracts.calling.Called as called
use Rattle.cluster_run.specs.contracts.fault.LateFault as fault
use Rattle.cluster_run.proofs.fault.LateFault.TheSendSync.{the_send as fault_send}

answers_send : IsSend (vec.the_row (answer.the_row heap.the_row ghosts) heap.the_row ghosts)
answers_send = vec_send (answer.the_row heap.the_row ghosts) heap.the_row ghosts answer_send heap_send heap_frees

module _ (N : RattleType) (g : Ghosts N.Denot) where
  pub called_send : IsSend (called.the_row N g)
  called_send = declared_send (called.the_type N g) (
    handle_send N g,
    (result_send (vec.the_row (answer.the_row heap.the_row ghosts) heap.the_row ghosts) fault.the_row answers_send (search (sendable, fault_send)), tt),
  )

use Rattle.std.proofs.Common.{rules}
use mathlib.Core.List.{[], ◌∷◌}
use denote.Exit.{yes}
use denote.Param.{param, copied}
use denote.Param.Send.{param_send, arg_send, sendable}
use Rattle.std.specs.contracts.alloc.Global as heap
use Rattle.std.below.std_heap.specs.contracts.GlobalAllocator.TheImpl.{ghosts}
use Rattle.std.specs.contracts.sync.Arc as arc
use Rattle.std.specs.contracts.vec.Vec as vec
use Rattle.std.proofs.vec.Vec.TheSendSync.{the_send as vec_send}
use Rattle.tuple_codec.specs.contracts.operations.Op as op
use Rattle.space_node.specs.contracts.handle.ClientHandle as handle
use Rattle.space_node.proofs.Captures.{closure_send}
use Rattle.space_node.proofs.Sends.{counted_send, heap_send, heap_frees, op_send}
use Rattle.space_node.proofs.HandleSends.{handle_send}
use Rattle.cluster_run.proofs.CalledSends.{called_send}
use Rattle.cluster_run.proofs.Joining.{starts}
use Rattle.cluster_run.specs.contracts.progress.Progress as progress
use Rattle.cluster_run.proofs.progress.Progress.TheSendSync.{the_send as progress_send, the_sync as progress_sync}
use Rattle.cluster_run.proofs.calling.start_client.Lts.{arg-14-2, arg-14-3}
use Rattle.cluster_run.proofs.calling.start_client.Goals as goal

pub spawn_with-requires-send-F : goal.spawn_with-requires-send-F
spawn_with-requires-send-F g c κs within =
    let N = param 0 g.row.N in
    let ops_send = vec_send (op.the_row heap.the_row ghosts) heap.the_row ghosts op_send heap_send heap_frees in
    param_send 2 (arg-14-2 g.row.N g.row.R g.N.laws g.R.laws g.R.copy g.N.Naming g.N.Naming-dict g.R.Threads g.R.Threads-dict
    g.R.Wait g.R.Wait-dict g.R.Clone g.R.Clone-dict κs)
    (arg_send _ yes _ (closure_send _ (copied 1 g.row.R ∷ heap.the_row ∷ handle.the_row N g.N.Naming
    ∷ vec.the_row (op.the_row heap.the_row ghosts) heap.the_row ghosts ∷ arc.the_row progress.the_row heap.the_row ghosts ∷ []) (
      c.type_bounds.send-R,
      (
        heap_send,
        (
          handle_send N g.N.Naming,
          (ops_send, (counted_send progress.the_row (search (sendable, progress_send)) (search (sendable, progress_sync)), tt)),
        ),
      ),
    )))

pub spawn_with-requires-send-T : goal.spawn_with-requires-send-T
spawn_with-requires-send-T g c κs within =
    param_send 3 (arg-14-3 g.row.N g.row.R g.N.laws g.R.laws g.R.copy g.N.Naming g.N.Naming-dict g.R.Threads g.R.Threads-dict
    g.R.Wait g.R.Wait-dict g.R.Clone g.R.Clone-dict κs)
    (arg_send _ yes _ (called_send (param 0 g.row.N) g.N.Naming))

pub returns-in-Ok : goal.returns-in-Ok
returns-in-Ok g c =
    starts c.args.callers.now.threads.items c.push_reserved-in-Ok.new.self.items c.in-Ok.thread c.args.number c.args.ops (search rules) (search rules) (search rules)

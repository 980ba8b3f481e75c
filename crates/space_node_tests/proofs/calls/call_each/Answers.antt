use mathlib.Core.List.{List, [], ◌∷◌}
use mir.Syntax.{static}
use denote.Ref.{ShrRef, MutRef}
use denote.Slice.{ShrSlice}
use denote.Struct.Tuple.{Tuple, tuple_type}
use denote.Text.{Str}
use denote.Exit.{no}
use denote.Param.{param}
use denote.RattleType.{RattleType}
use denote.Param.Send.{IsSync, param_send, arg_send, mut_send, shr_send, shr_slice_send, sendable}
use denote.Param.SendFields.{declared_sync}
use Rattle.std.specs.contracts.alloc.Global as heap
use Rattle.std.specs.contracts.sync.atomic.AtomicU64 as word
use Rattle.std.proofs.sync.atomic.AtomicU64.TheSendSync.{the_sync as word_sync}
use Rattle.space_node.specs.contracts.handle.ClientHandle as handle
use Rattle.space_node.proofs.Captures.{closure_send}
use Rattle.space_node.proofs.Sends.{heap_send}
use Rattle.space_node.proofs.HandleSends.{handle_send}
use Rattle.space_node_tests.proofs.calls.call_each.Lts.{arg-1-1}
use Rattle.space_node_tests.proofs.calls.call_each.Goals as goal

abbrev texts : List RattleType
texts = Str static [] ∷ Str static [] ∷ []

call_sync : IsSync (Tuple texts)
call_sync = declared_sync (tuple_type texts) (search sendable, (search sendable, tt))

flag_sync : IsSync word.the_row
flag_sync = search (sendable, word_sync)

-- The thread of calls borrows the client's handle, and all else that it reads.
pub join-answered-requires-send-F : goal.join-answered-requires-send-F
join-answered-requires-send-F g c κs within =
    let N = param 0 g.row.N in
    param_send 1 (arg-1-1 g.row.N g.row.R g.N.laws g.R.laws g.N.Naming g.N.Naming-dict g.R.Threads g.R.Threads-dict g.R.Wait
    g.R.Wait-dict g.R.Clock g.R.Clock-dict κs)
    (arg_send _ no _ (closure_send _ (ShrRef _ _ (param 1 g.row.R) ∷ heap.the_row ∷ MutRef _ _ (handle.the_row N g.N.Naming)
    ∷ ShrSlice _ _ (Tuple texts) ∷ ShrRef _ _ word.the_row ∷ []) (
      shr_send _ _ _ c.type_bounds.sync-R,
      (
        heap_send,
        (mut_send _ _ _ (handle_send N g.N.Naming), (shr_slice_send _ _ _ call_sync, (shr_send _ _ _ flag_sync, tt))),
      ),
    )))

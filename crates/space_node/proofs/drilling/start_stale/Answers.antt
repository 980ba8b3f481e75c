use mathlib.Core.List.{[], ◌∷◌}
use denote.RattleType.{RattleType}
use denote.Exit.{yes}
use denote.Param.{param, copied}
use denote.Param.Send.{param_send, arg_send, sendable}
use Rattle.std.specs.contracts.alloc.Global as heap
use Rattle.std.below.std_heap.specs.contracts.GlobalAllocator.TheImpl.{ghosts}
use Rattle.std.specs.contracts.sync.Arc as arc
use Rattle.crossbeam_channel.specs.contracts.channel.Receiver as receiver
use Rattle.space_node.specs.contracts.drilling.Stale as stale
use Rattle.space_node.specs.contracts.inbox.InboxMessage as note
use Rattle.space_node.specs.contracts.shared.Shared as shared
use Rattle.space_node.proofs.drilling.Stale.TheSendSync.{the_send as stale_send}
use Rattle.space_node.proofs.Captures.{closure_send}
use Rattle.space_node.proofs.Sends.{heap_send}
use Rattle.space_node.proofs.NodeSends.{inbox_send, counted_shared_send}
use Rattle.space_node.proofs.drilling.start_stale.Lts.{arg-10-1}
use Rattle.space_node.proofs.drilling.start_stale.Goals as goal

abbrev counted : RattleType → RattleType
counted R = arc.the_row R heap.the_row ghosts

abbrev inbox : RattleType
inbox = receiver.the_row note.the_row heap.the_row ghosts

pub spawn-requires-send-F : goal.spawn-requires-send-F
spawn-requires-send-F g c κs within =
    let N = param 0 g.row.N in
    param_send 1 (arg-10-1 g.row.N g.row.R g.N.laws g.R.laws g.R.copy g.N.Naming g.N.Naming-dict g.R.Threads g.R.Threads-dict
    g.R.Wait g.R.Wait-dict g.R.Clone g.R.Clone-dict κs)
    (arg_send _ yes _ (closure_send _ (copied 1 g.row.R ∷ heap.the_row ∷ counted (shared.the_row N g.N.Naming)
    ∷ stale.the_row ∷ inbox ∷ []) (
      c.type_bounds.send-R,
      (heap_send, (counted_shared_send N g.N.Naming, (search (sendable, stale_send), (inbox_send, tt)))),
    )))

-- The values that a replica's desk owns may go to another thread: its replies, its space, and its executed batches.
use mathlib.Core.List.{List, [], ◌∷◌}
use denote.RattleType.{RattleType}
use denote.Builtin.{u64}
use denote.Param.Send.{IsSend, sendable}
use denote.Param.SendFields.{as_row_send, declared_send}
use denote.Struct.Field.{row_field}
use denote.Struct.Tuple.{Tuple, tuple_type}
use Rattle.std.specs.contracts.alloc.Global as heap
use Rattle.std.below.std_heap.specs.contracts.GlobalAllocator.TheImpl.{ghosts}
use Rattle.std.specs.contracts.option.Option as option
use Rattle.std.proofs.option.Option.TheSendSync.{the_send as option_send}
use Rattle.tuple_tree.specs.contracts.tuples.Tuple as tuple
use Rattle.reply_cache.specs.contracts.cache.Reply as reply
use Rattle.reply_cache.specs.contracts.cache.ReplyCache as cache
use Rattle.reply_cache.specs.contracts.cache.ReplyCache.TheInside as in_cache
use Rattle.space.proofs.index.Index.TheSendSync.{the_send as index_send}
use Rattle.space.proofs.place_table.PlaceTable.TheSendSync.{the_send as places_send}
use Rattle.space.proofs.prints.Label.TheSendSync.{the_send as label_send}
use Rattle.space.proofs.version.Version.TheSendSync.{the_send as version_send}
use Rattle.space.specs.contracts.prints.Label as label
use Rattle.space.specs.contracts.stored.Stored as stored
use Rattle.space.specs.contracts.stored.Stored.TheInside as in_stored
use Rattle.space.specs.contracts.tuples.Space as space
use Rattle.space.specs.contracts.tuples.Space.TheInside as in_space
use Rattle.space.specs.contracts.watched.Watched as watched
use Rattle.space.specs.contracts.watched.Watched.TheInside as in_watched
use Rattle.partition_tree.proofs.tree.Tree.TheSendSync.{the_send as tree_send}
use Rattle.execution.specs.contracts.replies.WatchedReplies as replies
use Rattle.execution.specs.contracts.replies.WatchedReplies.TheInside as in_replies
use Rattle.execution.specs.contracts.executed.Executed as executed
use Rattle.execution.specs.contracts.executed.Executed.TheInside as in_executed
use Rattle.space_node.proofs.Sends.{heap_send, vec_field, tuple_send, answer_send}

-- ---- replies

reply_send : IsSend reply.the_row
reply_send = declared_send reply.the_type (search sendable, (search sendable, (answer_send, tt)))

in_cache_send : IsSend in_cache.the_row
in_cache_send =
    declared_send in_cache.the_type (vec_field (option.the_row reply.the_row) (option_send reply.the_row reply_send), tt)

cache_send : IsSend cache.the_row
cache_send = search (sendable, in_cache_send)

in_replies_send : IsSend in_replies.the_row
in_replies_send = declared_send in_replies.the_type (cache_send, (search sendable, tt))

replies_send : IsSend replies.the_row
replies_send = search (sendable, in_replies_send)

-- ---- the space

-- a birth and its tuple
abbrev entry_parts : List RattleType
entry_parts = u64 ∷ tuple.the_row heap.the_row ghosts ∷ []

entry_send : IsSend (Tuple entry_parts)
entry_send = declared_send (tuple_type entry_parts) (
  as_row_send (row_field u64) (search sendable),
  (as_row_send (row_field (tuple.the_row heap.the_row ghosts)) tuple_send, tt),
)

in_stored_send : IsSend in_stored.the_row
in_stored_send = declared_send in_stored.the_type (
  vec_field (Tuple entry_parts) entry_send,
  (
    vec_field label.the_row (search (sendable, label_send)),
    (
      search (sendable, places_send),
      tt,
    ),
  ),
)

stored_send : IsSend stored.the_row
stored_send = search (sendable, in_stored_send)

in_space_send : IsSend in_space.the_row
in_space_send = declared_send in_space.the_type (
  search (sendable, heap_send),
  (search (sendable, version_send), (stored_send, (search sendable, (search sendable, (search (sendable, index_send), tt))))),
)

space_send : IsSend space.the_row
space_send = search (sendable, in_space_send)

in_watched_send : IsSend in_watched.the_row
in_watched_send = declared_send in_watched.the_type (space_send, (search sendable, (search sendable, tt)))

watched_send : IsSend watched.the_row
watched_send = search (sendable, in_watched_send)

-- ---- executed states

in_executed_send : IsSend in_executed.the_row
in_executed_send = declared_send in_executed.the_type (
  search (sendable, heap_send),
  (watched_send, (replies_send, (search sendable, (search sendable, (search (sendable, tree_send), tt))))),
)

pub executed_send : IsSend executed.the_row
executed_send = search (sendable, in_executed_send)

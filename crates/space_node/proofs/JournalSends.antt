-- The values that a journal and shares own may go to another thread.
use denote.RattleType.{RattleType}
use denote.Param.Send.{IsSend, sendable}
use denote.Param.SendFields.{declared_send}
use Rattle.std.proofs.option.Option.TheSendSync.{the_send as option_send}
use Rattle.std.proofs.marker.PhantomData.TheSendSync.{the_send as phantom_send}
use Rattle.terms.proofs.parties.Party.TheSendSync.{the_send as party_send}
use Rattle.events.specs.contracts.entry.Entry as entry
use Rattle.journal.specs.declared.naming.Naming.{Ghosts}
use Rattle.journal.proofs.front.Front.TheSendSync.{the_send as front_send}
use Rattle.journal.proofs.carrying.Faulty.TheSendSync.{the_send as faulty_send}
use Rattle.journal.proofs.tie.Tie.TheSendSync.{the_send as tie_send}
use Rattle.journal.specs.contracts.front.Front as front
use Rattle.journal.specs.contracts.locked.Journal as journal
use Rattle.journal.specs.contracts.locked.Journal.TheInside as in_journal
use Rattle.journal.specs.contracts.order_share.OrderShare as order_share
use Rattle.journal.specs.contracts.order_share.OrderShare.TheInside as in_order_share
use Rattle.journal.specs.contracts.tie.Tie as tie
use Rattle.journal.specs.contracts.share.Share as share
use Rattle.journal.specs.contracts.share.Share.TheInside as in_share
use Rattle.space_node.proofs.Sends.{vec_field, entry_send}

module _ (N : RattleType) (g : Ghosts N.Denot) where
  in_share_send : IsSend (in_share.the_row N g)
  in_share_send = declared_send (in_share.the_type N g) (
    search (sendable, party_send),
    (vec_field entry.the_row entry_send, (option_send (front.the_row N g) (front_send N g), (phantom_send N, tt))),
  )

  pub share_send : IsSend (share.the_row N g)
  share_send = search (sendable, in_share_send)

  in_order_share_send : IsSend (in_order_share.the_row N g)
  in_order_share_send = declared_send (in_order_share.the_type N g) (
    search (sendable, party_send),
    (vec_field entry.the_row entry_send, (option_send (front.the_row N g) (front_send N g), (phantom_send N, tt))),
  )

  pub order_share_send : IsSend (order_share.the_row N g)
  order_share_send = search (sendable, in_order_share_send)

  in_journal_send : IsSend (in_journal.the_row N g)
  in_journal_send = declared_send (in_journal.the_type N g) (
    vec_field entry.the_row entry_send,
    (
      search sendable,
      (
        search (sendable, faulty_send),
        (option_send (tie.the_row N g) (tie_send N g), (phantom_send N, tt)),
      ),
    ),
  )

  pub journal_send : IsSend (journal.the_row N g)
  journal_send = search (sendable, in_journal_send)

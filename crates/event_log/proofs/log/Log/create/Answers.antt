use Rattle.std.proofs.Common.{◌≡◌, length, ◌∙◌, sym, ap, arith}
use Rattle.std.proofs.lemmas.List.{nil_from_length}
use Rattle.event_log.proofs.Stands.{created_stands}
use Rattle.event_log.proofs.log.Log.create.Goals as goal

pub returns-clause-stands : goal.returns-clause-stands
returns-clause-stands g c clean =
    let file = g.D.Disk.seen c.args.disk.now in
    let empty : 0 ≡ length file = omega (arith, c.in_ok-len.ensures.len (c.write_synced.ensures.clean clean)) in
    let header = c.deref.result.now in (
      nil_from_length file (sym empty),
      created_stands g.D.Disk.seen g.D.Disk.may_leave c.args.owner _ c.write_synced.new.disk (g.D.Disk.seen c.len.new.disk) header
          (empty ∙ ap length (sym c.len.ensures.seen)) (c.deref.ensures.value ∙ c.in_ok-header.ensures)
          c.write_synced.ensures.torn c.in_ok-write_synced.ensures.written c.in_ok-write_synced.ensures.durable
          c.behind-log.ensures.place.0 c.behind-log.ensures.place.1 c.behind-log.ensures.place.2 c.behind-log.ensures.empty.0 c.behind-log.ensures.empty.1,
    )

use Rattle.std.proofs.Common.{List, ℕ, take, drop, refl, ◌∙◌, sym, ap, arith}
use Rattle.event_log.proofs.ReadingOn.{opened_at}
use Rattle.event_log.proofs.reading.Reading.open.Goals as goal

pub returns-clause-at : goal.returns-clause-at
returns-clause-at g c clean =
    let file = g.D.Disk.seen c.args.disk.now in
    let long = c.in_ok-len.ensures.len (c.read.ensures.clean clean) in
    opened_at c.args.owner _ file c.read.new.room.items
    (c.in_ok-read.ensures.read clean ∙ ap (λ (f : List ℕ). take 32 (drop 0 f)) c.len.ensures.seen)
    (sym c.deref.ensures.value ∙ c.in_ok-judge_header.ensures)
    (omega (arith, long, c.if-len-lt-HEADER_LEN.false)) refl refl long refl

use Rattle.std.proofs.Common.{List, ℕ, length, ◌∙◌, sym, ap, subst}
use Rattle.sqlite_disk.specs.Disk.{Cut}
use Rattle.event_log.proofs.ReadingOn.{cut_crash, ended_stands}
use Rattle.event_log.proofs.reading.Reading.cut.Goals as goal

pub returns-in_err-set_len-clause-any_moment : goal.returns-in_err-set_len-clause-any_moment
returns-in_err-set_len-clause-any_moment g c owner events all left at none reads is =
    cut_crash owner c.args.self (g.D.Disk.seen c.args.disk.now) left events all _ _ at none reads c.requires.restarted c.set_len.ensures.crash is

pub returns-in_err-sync-clause-any_moment : goal.returns-in_err-sync-clause-any_moment
returns-in_err-sync-clause-any_moment g c owner events all left at none reads is =
    cut_crash owner c.args.self (g.D.Disk.seen c.args.disk.now) left events all _ _ at none reads c.requires.restarted c.set_len.ensures.crash (c.sync.ensures.crash left is)

pub returns-clause-any_moment : goal.returns-clause-any_moment
returns-clause-any_moment g c owner events all left at none reads is =
    cut_crash owner c.args.self (g.D.Disk.seen c.args.disk.now) left events all _ _ at none reads c.requires.restarted c.set_len.ensures.crash (c.sync.ensures.crash left is)

pub returns-clause-cuts : goal.returns-clause-cuts
returns-clause-cuts g c owner events at =
    ended_stands g.D.Disk.seen g.D.Disk.may_leave owner c.args.self c.behind.result (g.D.Disk.seen c.args.disk.now) c.sync.new.self events at
    (subst (λ (f : List ℕ). Cut c.args.self.place (g.D.Disk.seen c.args.disk.now) f) (sym c.sync.ensures.seen) c.set_len.ensures.others)
    (ap length c.sync.ensures.seen ∙ c.in_ok-set_len.ensures.len)
    (λ file left. c.in_ok-sync.ensures.durable file left ∙ sym c.sync.ensures.seen)
    c.behind.ensures.place.0 c.behind.ensures.place.1 c.behind.ensures.place.2 c.behind.ensures.empty.0 c.behind.ensures.empty.1 c.behind.ensures.empty.2

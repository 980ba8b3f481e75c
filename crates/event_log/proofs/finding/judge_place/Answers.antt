use Rattle.std.proofs.Common.{drop, refl, subst}
use Rattle.event_log.specs.Finding.{FindsNextGroup}
use Rattle.event_log.proofs.Finds.{judged_found}
use Rattle.event_log.proofs.finding.judge_place.Goals as goal

pub returns-in-Some-clause-judges : goal.returns-in-Some-clause-judges
returns-in-Some-clause-judges g c clean long =
    judged_found c.args.owner (g.D.Disk.seen c.args.disk.now) c.group_at.new.room.items c.args.place _
    (subst (λ o. FindsNextGroup c.args.owner (drop c.args.place (g.D.Disk.seen c.args.disk.now)) c.group_at.new.room.items o) c.in-Some.is (c.in_ok-found.ensures.finds clean long))

pub returns-in-None-clause-judges : goal.returns-in-None-clause-judges
returns-in-None-clause-judges g c clean long =
    (refl, subst (λ o. FindsNextGroup c.args.owner (drop c.args.place (g.D.Disk.seen c.args.disk.now)) c.group_at.new.room.items o) c.in-None.is (c.in_ok-found.ensures.finds clean long))

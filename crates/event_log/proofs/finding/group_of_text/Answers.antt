use Rattle.std.proofs.Common.{List, ℕ, MatchOption, drop, subst, arith}
use Rattle.event_log.specs.Groups.{IsGroupOf, IsNoGroup}
use Rattle.event_log.proofs.Finds.{far_has_none, found_of, fits_of}
use Rattle.event_log.proofs.finding.group_of_text.Goals as goal

pub returns-then-more-text-clause-finds : goal.returns-then-more-text-clause-finds
returns-then-more-text-clause-finds g c clean long says =
    far_has_none c.args.owner (drop c.args.place (g.D.Disk.seen c.args.disk.now)) c.args.text says (omega (arith, long, c.if-more-text.true))

pub returns-clause-finds : goal.returns-clause-finds
returns-clause-finds g c clean long says =
    found_of c.args.owner (drop c.args.place (g.D.Disk.seen c.args.disk.now)) c.read.new.room.items c.args.text c.whole_group.result says
    (c.in_ok-read.ensures.read clean)
    (subst (λ (l : List ℕ). MatchOption c.whole_group.result (IsNoGroup c.args.owner l) (λ r. IsGroupOf c.args.owner l r.0 r.1)) c.deref.ensures.value c.whole_group.ensures)

pub returns-clause-bounds : goal.returns-clause-bounds
returns-clause-bounds g c =
    fits_of c.args.owner c.args.more c.read.new.room.items c.args.text c.whole_group.result (omega (arith, c.in_ok-read.ensures.count)) (omega (arith, c.if-more-text.false))
    (subst (λ (l : List ℕ). MatchOption c.whole_group.result (IsNoGroup c.args.owner l) (λ r. IsGroupOf c.args.owner l r.0 r.1)) c.deref.ensures.value c.whole_group.ensures)

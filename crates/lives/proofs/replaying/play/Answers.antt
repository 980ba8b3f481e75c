use Rattle.std.proofs.Common.{◌∙◌, ◌++◌, List, ℕ, Bool, MatchBool, map, sym, subst}
use Rattle.event_log.specs.Standing.{ReadsGroup, ReadsNone, ReadsNext, EndsReading, KeepsRead, LeavesDamage}
use Rattle.event_log.proofs.ReadingOn.{same_keeps}
use Rattle.lives.specs.Events.{logged}
use Rattle.lives.specs.Repeats.{Repeats}
use Rattle.lives.proofs.Playing.{nothing_played, group_played, last_read}
use Rattle.lives.proofs.replaying.play.Goals as goal

pub loop-last-init : goal.loop-last-init
loop-last-init g c =
    record {
      seen = c.open.ensures.seen;
      crash = c.open.ensures.crash;
      clean = c.open.ensures.clean;
      usable = c.open.ensures.usable;
      plays = λ clean.
          nothing_played g.M.Machine.fits c.args.owner c.args.machine.now c.in_ok-reading.reading (g.D.Disk.seen c.args.disk.now) _ c.requires.new (c.in_ok-reading.ensures.at clean) c.new-last.ensures.items;
    }

pub loop-last-preserved : goal.loop-last-preserved
loop-last-preserved g c =
    let inv = c.loop-last.invariant in
    let owner = c.args.owner in
    record {
      seen = c.next_group.ensures.seen ∙ inv.seen;
      crash = λ f is. inv.crash f (c.next_group.ensures.crash f is);
      clean = λ is. inv.clean (c.next_group.ensures.clean is);
      usable = c.next_group.ensures.usable;
      plays = λ clean.
          let up = inv.plays (c.next_group.ensures.clean clean) in
          let events = map logged (up.front ++ up.last) in
          let new = c.next_group.new.self in
          let file = g.D.Disk.seen c.args.disk.now in
          let next = subst (λ (f : List ℕ). ReadsNext c.loop-last.reading f c.in_ok-next_group.field-0 new) inv.seen (c.in_ok-next_group.ensures.next clean) in
          let read = subst (λ (b : Bool). MatchBool b (ReadsGroup owner new file events) (ReadsNone owner new file events up.at.tail)) c.if-branch.true
          (next owner events up.at) in
          group_played g.M.Machine.fits owner c.loop-last.machine c.repeat_text.new.machine c.loop-last.reading new file c.loop-last.last.items c.repeat_text.new.given.items up read
          (subst (λ (l : List ℕ). Repeats g.M.Machine.fits c.loop-last.machine c.repeat_text.new.machine read.group l c.repeat_text.new.given.items) c.clear.ensures.items
          (c.in_ok-repeat_text.ensures read.group read.short (c.text.ensures ∙ read.text)));
    }

pub end-requires-clause-restarted : goal.end-requires-clause-restarted
end-requires-clause-restarted g c file left =
    let inv = c.loop-last.invariant in
    c.requires.restarted file (inv.crash file (c.next_group.ensures.crash file left)) ∙ sym (c.next_group.ensures.seen ∙ inv.seen)

pub returns-in_err-reading-clause-any_moment : goal.returns-in_err-reading-clause-any_moment
returns-in_err-reading-clause-any_moment g c clean events left reads is =
    same_keeps c.args.owner events (g.D.Disk.seen c.args.disk.now) left reads (c.requires.restarted left (c.open.ensures.crash left is))

pub returns-in_err-next_group-clause-any_moment : goal.returns-in_err-next_group-clause-any_moment
returns-in_err-next_group-clause-any_moment g c clean events left reads is =
    same_keeps c.args.owner events (g.D.Disk.seen c.args.disk.now) left reads
    (c.requires.restarted left (c.loop-last.invariant.crash left (c.next_group.ensures.crash left is)))

pub returns-in_err-repeat_text-clause-any_moment : goal.returns-in_err-repeat_text-clause-any_moment
returns-in_err-repeat_text-clause-any_moment g c clean events left reads is =
    same_keeps c.args.owner events (g.D.Disk.seen c.args.disk.now) left reads
    (c.requires.restarted left (c.loop-last.invariant.crash left (c.next_group.ensures.crash left is)))

pub returns-in_err-log-clause-any_moment : goal.returns-in_err-log-clause-any_moment
returns-in_err-log-clause-any_moment g c clean events left reads is =
    let inv = c.loop-last.invariant in
    let owner = c.args.owner in
    let up = inv.plays (c.next_group.ensures.clean (c.end.ensures.clean clean)) in
    let told = map logged (up.front ++ up.last) in
    let new = c.next_group.new.self in
    let file = g.D.Disk.seen c.args.disk.now in
    let next = subst (λ (f : List ℕ). ReadsNext c.loop-last.reading f c.in_ok-next_group.field-0 new) inv.seen (c.in_ok-next_group.ensures.next (c.end.ensures.clean clean)) in
    let none = subst (λ (b : Bool). MatchBool b (ReadsGroup owner new file told) (ReadsNone owner new file told up.at.tail)) c.if-branch.false (next owner told up.at) in
    subst (λ (f : List ℕ). KeepsRead g.D.Disk.may_leave new f c.end.new.disk) (c.next_group.ensures.seen ∙ inv.seen) (c.end.ensures.any_moment clean) owner told events left none.at reads is

pub returns-clause-any_moment : goal.returns-clause-any_moment
returns-clause-any_moment g c clean events left reads is =
    let inv = c.loop-last.invariant in
    let owner = c.args.owner in
    let up = inv.plays (c.next_group.ensures.clean (c.end.ensures.clean clean)) in
    let told = map logged (up.front ++ up.last) in
    let new = c.next_group.new.self in
    let file = g.D.Disk.seen c.args.disk.now in
    let next = subst (λ (f : List ℕ). ReadsNext c.loop-last.reading f c.in_ok-next_group.field-0 new) inv.seen (c.in_ok-next_group.ensures.next (c.end.ensures.clean clean)) in
    let none = subst (λ (b : Bool). MatchBool b (ReadsGroup owner new file told) (ReadsNone owner new file told up.at.tail)) c.if-branch.false (next owner told up.at) in
    subst (λ (f : List ℕ). KeepsRead g.D.Disk.may_leave new f c.end.new.disk) (c.next_group.ensures.seen ∙ inv.seen) (c.end.ensures.any_moment clean) owner told events left none.at reads is

pub returns-in_err-reading-clause-damage : goal.returns-in_err-reading-clause-damage
returns-in_err-reading-clause-damage g c clean left damaged is = c.requires.restarted left (c.open.ensures.crash left is)

pub returns-in_err-next_group-clause-damage : goal.returns-in_err-next_group-clause-damage
returns-in_err-next_group-clause-damage g c clean left damaged is =
    c.requires.restarted left (c.loop-last.invariant.crash left (c.next_group.ensures.crash left is))

pub returns-in_err-repeat_text-clause-damage : goal.returns-in_err-repeat_text-clause-damage
returns-in_err-repeat_text-clause-damage g c clean left damaged is =
    c.requires.restarted left (c.loop-last.invariant.crash left (c.next_group.ensures.crash left is))

pub returns-in_err-log-clause-damage : goal.returns-in_err-log-clause-damage
returns-in_err-log-clause-damage g c clean left damaged is =
    let inv = c.loop-last.invariant in
    let owner = c.args.owner in
    let up = inv.plays (c.next_group.ensures.clean (c.end.ensures.clean clean)) in
    let told = map logged (up.front ++ up.last) in
    let new = c.next_group.new.self in
    let file = g.D.Disk.seen c.args.disk.now in
    let next = subst (λ (f : List ℕ). ReadsNext c.loop-last.reading f c.in_ok-next_group.field-0 new) inv.seen (c.in_ok-next_group.ensures.next (c.end.ensures.clean clean)) in
    let none = subst (λ (b : Bool). MatchBool b (ReadsGroup owner new file told) (ReadsNone owner new file told up.at.tail)) c.if-branch.false (next owner told up.at) in
    subst (λ (f : List ℕ). LeavesDamage g.D.Disk.may_leave new f c.end.new.disk) (c.next_group.ensures.seen ∙ inv.seen) (c.end.ensures.damage clean) owner told left up.at.tail none damaged is

pub returns-clause-damage : goal.returns-clause-damage
returns-clause-damage g c clean left damaged is =
    let inv = c.loop-last.invariant in
    let owner = c.args.owner in
    let up = inv.plays (c.next_group.ensures.clean (c.end.ensures.clean clean)) in
    let told = map logged (up.front ++ up.last) in
    let new = c.next_group.new.self in
    let file = g.D.Disk.seen c.args.disk.now in
    let next = subst (λ (f : List ℕ). ReadsNext c.loop-last.reading f c.in_ok-next_group.field-0 new) inv.seen (c.in_ok-next_group.ensures.next (c.end.ensures.clean clean)) in
    let none = subst (λ (b : Bool). MatchBool b (ReadsGroup owner new file told) (ReadsNone owner new file told up.at.tail)) c.if-branch.false (next owner told up.at) in
    subst (λ (f : List ℕ). LeavesDamage g.D.Disk.may_leave new f c.end.new.disk) (c.next_group.ensures.seen ∙ inv.seen) (c.end.ensures.damage clean) owner told left up.at.tail none damaged is

pub returns-clause-plays : goal.returns-clause-plays
returns-clause-plays g c clean =
    let inv = c.loop-last.invariant in
    let owner = c.args.owner in
    let up = inv.plays (c.next_group.ensures.clean (c.end.ensures.clean clean)) in
    let told = map logged (up.front ++ up.last) in
    let new = c.next_group.new.self in
    let file = g.D.Disk.seen c.args.disk.now in
    let next = subst (λ (f : List ℕ). ReadsNext c.loop-last.reading f c.in_ok-next_group.field-0 new) inv.seen (c.in_ok-next_group.ensures.next (c.end.ensures.clean clean)) in
    let none = subst (λ (b : Bool). MatchBool b (ReadsGroup owner new file told) (ReadsNone owner new file told up.at.tail)) c.if-branch.false (next owner told up.at) in
    let ends = subst (λ (f : List ℕ). EndsReading g.D.Disk.seen g.D.Disk.may_leave new f c.in_ok-log.log c.end.new.disk) (c.next_group.ensures.seen ∙ inv.seen)
    (c.in_ok-log.ensures.reads clean) owner told none.at in
    let read = last_read g.M.Machine.fits owner c.loop-last.machine c.loop-last.reading new file c.loop-last.last.items up none ends.0 in
    record {
      front = up.front;
      last = up.last;
      fitted = up.fitted;
      reads = read.0;
      group = read.1;
      stands = ends.1;
      is_given = up.is_given;
    }

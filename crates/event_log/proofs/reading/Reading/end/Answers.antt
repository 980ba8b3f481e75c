use Rattle.std.proofs.Common.{List, ℕ, Option, ◌∙◌, sym, subst}
use Rattle.event_log.specs.Finding.{FindsFirst, NoGroupFrom}
use Rattle.event_log.specs.Logs.{Reads}
use Rattle.event_log.specs.Standing.{IsAt}
use Rattle.event_log.proofs.ReadingOn.{same_keeps, ended_torn, ended_undamaged}
use Rattle.event_log.proofs.reading.Reading.end.Goals as goal

pub returns-in_err-found-clause-any_moment : goal.returns-in_err-found-clause-any_moment
returns-in_err-found-clause-any_moment g c clean owner events all left at reads is =
    same_keeps owner all (g.D.Disk.seen c.args.disk.now) left reads (c.requires.restarted left (c.find_group.ensures.crash left is))

pub returns-in-Some-clause-any_moment : goal.returns-in-Some-clause-any_moment
returns-in-Some-clause-any_moment g c clean owner events all left at reads is =
    same_keeps owner all (g.D.Disk.seen c.args.disk.now) left reads (c.requires.restarted left (c.find_group.ensures.crash left is))

pub cut-requires-clause-restarted : goal.cut-requires-clause-restarted
cut-requires-clause-restarted g c file left =
    c.requires.restarted file (c.find_group.ensures.crash file left) ∙ sym c.find_group.ensures.seen

pub returns-in_err-log-in-None-clause-any_moment : goal.returns-in_err-log-in-None-clause-any_moment
returns-in_err-log-in-None-clause-any_moment g c clean owner events all left at reads is =
    let same = sym c.find_group.ensures.seen in
    let none = subst (λ (o : Option ℕ). FindsFirst c.args.self.owner (g.D.Disk.seen c.args.disk.now) c.args.self.place o) c.in-None.is
    (c.in_ok-found.ensures.finds (c.cut.ensures.clean clean) at.len_is) in
    c.cut.ensures.any_moment owner events all left
    (subst (λ (f : List ℕ). IsAt owner c.args.self f events) same at)
    (subst (λ (f : List ℕ). NoGroupFrom c.args.self.owner f c.args.self.place) same none)
    (subst (λ (f : List ℕ). Reads owner f all) same reads) is

pub returns-in_ok-log-in-None-clause-any_moment : goal.returns-in_ok-log-in-None-clause-any_moment
returns-in_ok-log-in-None-clause-any_moment g c clean owner events all left at reads is =
    let same = sym c.find_group.ensures.seen in
    let none = subst (λ (o : Option ℕ). FindsFirst c.args.self.owner (g.D.Disk.seen c.args.disk.now) c.args.self.place o) c.in-None.is
    (c.in_ok-found.ensures.finds (c.cut.ensures.clean clean) at.len_is) in
    c.cut.ensures.any_moment owner events all left
    (subst (λ (f : List ℕ). IsAt owner c.args.self f events) same at)
    (subst (λ (f : List ℕ). NoGroupFrom c.args.self.owner f c.args.self.place) same none)
    (subst (λ (f : List ℕ). Reads owner f all) same reads) is

pub returns-in_ok-log-in-None-clause-reads : goal.returns-in_ok-log-in-None-clause-reads
returns-in_ok-log-in-None-clause-reads g c clean owner events at =
    let none = subst (λ (o : Option ℕ). FindsFirst c.args.self.owner (g.D.Disk.seen c.args.disk.now) c.args.self.place o) c.in-None.is
    (c.in_ok-found.ensures.finds (c.cut.ensures.clean clean) at.len_is) in (
      ended_torn owner c.args.self (g.D.Disk.seen c.args.disk.now) events at none,
      c.in_ok-log-in-None.ensures.cuts owner events (subst (λ (f : List ℕ). IsAt owner c.args.self f events) (sym c.find_group.ensures.seen) at),
    )

pub returns-in_err-found-clause-damage : goal.returns-in_err-found-clause-damage
returns-in_err-found-clause-damage g c clean owner events left tail read damaged is =
    c.requires.restarted left (c.find_group.ensures.crash left is)

pub returns-in-Some-clause-damage : goal.returns-in-Some-clause-damage
returns-in-Some-clause-damage g c clean owner events left tail read damaged is =
    c.requires.restarted left (c.find_group.ensures.crash left is)

pub returns-in_err-log-in-None-clause-damage : goal.returns-in_err-log-in-None-clause-damage
returns-in_err-log-in-None-clause-damage g c clean owner events left tail read damaged is =
    absurd (ended_undamaged owner c.args.self (g.D.Disk.seen c.args.disk.now) events tail read damaged
    (subst (λ (o : Option ℕ). FindsFirst c.args.self.owner (g.D.Disk.seen c.args.disk.now) c.args.self.place o) c.in-None.is
    (c.in_ok-found.ensures.finds (c.cut.ensures.clean clean) read.at.len_is)))

pub returns-in_ok-log-in-None-clause-damage : goal.returns-in_ok-log-in-None-clause-damage
returns-in_ok-log-in-None-clause-damage g c clean owner events left tail read damaged is =
    absurd (ended_undamaged owner c.args.self (g.D.Disk.seen c.args.disk.now) events tail read damaged
    (subst (λ (o : Option ℕ). FindsFirst c.args.self.owner (g.D.Disk.seen c.args.disk.now) c.args.self.place o) c.in-None.is
    (c.in_ok-found.ensures.finds (c.cut.ensures.clean clean) read.at.len_is)))

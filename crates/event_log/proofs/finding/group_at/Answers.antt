use Rattle.std.proofs.Common.{List, ℕ, length, take, drop, ◌∙◌, sym, ap, subst, arith}
use Rattle.std.proofs.lemmas.List.{length-drop}
use Rattle.event_log.specs.Groups.{SaysNone, SaysText}
use Rattle.event_log.specs.Finding.{FindsNextGroup, FitsNextGroup}
use Rattle.event_log.proofs.Finds.{short_has_none, head_has_none}
use Rattle.event_log.proofs.finding.group_at.Goals as goal

pub returns-then-left-lt-EMPTY_GROUP-clause-finds : goal.returns-then-left-lt-EMPTY_GROUP-clause-finds
returns-then-left-lt-EMPTY_GROUP-clause-finds g c clean long =
    let file = g.D.Disk.seen c.args.disk.now in
    short_has_none c.args.owner (drop c.args.place file) (omega (arith, c.if-left-lt-EMPTY_GROUP.true, c.requires.inside, long, length-drop c.args.place file))

pub returns-in-None-clause-finds : goal.returns-in-None-clause-finds
returns-in-None-clause-finds g c clean long =
    head_has_none c.args.owner (drop c.args.place (g.D.Disk.seen c.args.disk.now))
    (subst (SaysNone c.args.owner) (c.deref.ensures.value ∙ c.in_ok-read.ensures.read clean) c.in-None.ensures)

pub returns-in_ok-found-in-Some-clause-finds : goal.returns-in_ok-found-in-Some-clause-finds
returns-in_ok-found-in-Some-clause-finds g c clean long =
    let file = g.D.Disk.seen c.args.disk.now in
    let place = c.args.place in
    let same = c.read.ensures.seen in
    let says = subst (λ (l : List ℕ). SaysText c.args.owner l c.in-Some.text) (c.deref.ensures.value ∙ c.in_ok-read.ensures.read (c.group_of_text.ensures.clean clean)) c.in-Some.ensures in
    subst (λ (f : List ℕ). FindsNextGroup c.args.owner (drop place f) c.group_of_text.new.room.items c.in_ok-found-in-Some.found) same
    (c.in_ok-found-in-Some.ensures.finds clean
    (omega (arith, c.if-left-lt-EMPTY_GROUP.false, c.requires.inside, long, length-drop place (g.D.Disk.seen c.read.new.disk), ap length same))
    (subst (λ (f : List ℕ). SaysText c.args.owner (take 20 (drop place f)) c.in-Some.text) (sym same) says))

pub returns-in_ok-found-in-Some-clause-bounds : goal.returns-in_ok-found-in-Some-clause-bounds
returns-in_ok-found-in-Some-clause-bounds g c =
    subst (λ (n : ℕ). FitsNextGroup n c.group_of_text.new.room.items c.in_ok-found-in-Some.found) (omega (arith, c.if-left-lt-EMPTY_GROUP.false)) c.in_ok-found-in-Some.ensures.bounds

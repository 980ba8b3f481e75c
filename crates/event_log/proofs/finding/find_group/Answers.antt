use Rattle.std.proofs.Common.{List, ℕ, Bool, length, ◌∙◌, sym, ap, subst, arith}
use Rattle.event_log.specs.Finding.{SearchesTo, NoGroupIn}
use Rattle.event_log.proofs.Finds.{searched_on, searched_found, searched_all}
use Rattle.event_log.proofs.finding.find_group.Goals as goal

pub loop-place-preserved : goal.loop-place-preserved
loop-place-preserved g c =
    let inv = c.loop-place.invariant in
    let further = c.in_ok-next.ensures.further c.if-is_found.false in
    record {
      seen = c.search_window.ensures.seen ∙ inv.seen;
      crash = λ f is. inv.crash f (c.search_window.ensures.crash f is);
      clean = λ is. inv.clean (c.search_window.ensures.clean is);
      usable = c.search_window.ensures.usable;
      behind = omega (arith, inv.behind, further);
      none = λ clean long.
          searched_on c.args.owner (g.D.Disk.seen c.args.disk.now) c.args.from c.loop-place.place c.in_ok-next.next inv.behind
          (inv.none (c.search_window.ensures.clean clean) long)
          (subst (λ (f : List ℕ). NoGroupIn c.args.owner f c.loop-place.place c.in_ok-next.next) inv.seen
          (subst (λ (b : Bool). SearchesTo c.args.owner (g.D.Disk.seen c.loop-place.disk) c.loop-place.place c.in_ok-next.next b) c.if-is_found.false
          (c.in_ok-next.ensures.finds clean (long ∙ sym (ap length inv.seen)))));
    }

pub returns-then-is_found-clause-finds : goal.returns-then-is_found-clause-finds
returns-then-is_found-clause-finds g c clean long =
    let inv = c.loop-place.invariant in
    searched_found c.args.owner (g.D.Disk.seen c.args.disk.now) c.args.from c.loop-place.place c.in_ok-next.next inv.behind
    (inv.none (c.search_window.ensures.clean clean) long)
    (subst (λ (b : Bool). SearchesTo c.args.owner (g.D.Disk.seen c.args.disk.now) c.loop-place.place c.in_ok-next.next b) c.if-is_found.true
    (subst (λ (f : List ℕ). SearchesTo c.args.owner f c.loop-place.place c.in_ok-next.next c.in_ok-next.is_found) inv.seen
    (c.in_ok-next.ensures.finds clean (long ∙ sym (ap length inv.seen)))))

pub returns-clause-finds : goal.returns-clause-finds
returns-clause-finds g c clean long =
    searched_all c.args.owner (g.D.Disk.seen c.args.disk.now) c.args.from c.loop-place.place (c.loop-place.invariant.none clean long) (omega (arith, long, c.loop-place-test.false))

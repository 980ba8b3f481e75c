use Rattle.std.proofs.Common.{◌-◌, ℕ, Option, drop, refl, subst, arith}
use Rattle.event_log.specs.Finding.{FindsNextGroup, FitsNextGroup}
use Rattle.event_log.proofs.ReadingOn.{none_read, other_read, group_read}
use Rattle.event_log.proofs.reading.Reading.next_group.Goals as goal

pub returns-in_default-clause-next : goal.returns-in_default-clause-next
returns-in_default-clause-next g c clean owner events at =
    none_read owner c.args.self.now _ (g.D.Disk.seen c.args.disk.now) events at
    (subst (λ (o : Option (ℕ × ℕ)). FindsNextGroup c.args.self.now.owner (drop c.args.self.now.place (g.D.Disk.seen c.args.disk.now)) c.group_at.new.room.items o) c.in_default.is
    (c.in_ok-found.ensures.finds clean at.len_is))
    refl refl refl refl

pub returns-then-number-self-clause-next : goal.returns-then-number-self-clause-next
returns-then-number-self-clause-next g c clean owner events at =
    other_read owner c.args.self.now _ (g.D.Disk.seen c.args.disk.now) c.group_at.new.room.items events c.in-Some.number c.in-Some.count at
    (subst (λ (o : Option (ℕ × ℕ)). FindsNextGroup c.args.self.now.owner (drop c.args.self.now.place (g.D.Disk.seen c.args.disk.now)) c.group_at.new.room.items o) c.in-Some.is
    (c.in_ok-found.ensures.finds clean at.len_is))
    c.if-number-self.true refl refl refl refl

pub returns-clause-next : goal.returns-clause-next
returns-clause-next g c clean owner events at =
    group_read owner _ _ (g.D.Disk.seen c.args.disk.now) events c.in-Some.number c.in-Some.count at
    (subst (λ (o : Option (ℕ × ℕ)). FindsNextGroup c.args.self.now.owner (drop c.args.self.now.place (g.D.Disk.seen c.args.disk.now)) c.group_at.new.room.items o) c.in-Some.is
    (c.in_ok-found.ensures.finds clean at.len_is))
    (omega arith) refl (omega arith) refl (omega arith)

pub overflow_add-self : goal.overflow_add-self
overflow_add-self g c =
    let fits = subst (λ (o : Option (ℕ × ℕ)). FitsNextGroup (c.args.self.now.len - c.args.self.now.place) c.group_at.new.room.items o) c.in-Some.is c.in_ok-found.ensures.bounds in
    omega (arith, fits.within)

pub invariant_of-self-2 : goal.invariant_of-self-2
invariant_of-self-2 g c =
    let fits = subst (λ (o : Option (ℕ × ℕ)). FitsNextGroup (c.args.self.now.len - c.args.self.now.place) c.group_at.new.room.items o) c.in-Some.is c.in_ok-found.ensures.bounds in
    record { inside = omega (arith, fits.within, c.len.ensures) }

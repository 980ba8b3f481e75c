use Rattle.std.proofs.Common.{◌∙◌, [], List, ℕ, Bool, true, refl, sym, subst}
use Rattle.lives.specs.Steps.{Steps}
use Rattle.lives.proofs.Playing.{repeats_event}
use Rattle.lives.proofs.replaying.repeat_event.Goals as goal

pub returns : goal.returns
returns g c =
    repeats_event g.M.Machine.fits c.args.machine.now c.step.new.self c.args.event.now c.in-Some.input.now c.in-Some.outputs.now c.step.new.outputs.items c.args.given.now.items c.extend_from_slice.new.self.items true
    (subst (λ (b : Bool). Steps g.M.Machine.fits c.args.machine.now c.step.new.self c.in-Some.input.now [] c.step.new.outputs.items b) c.if-not-moved.false
    (subst (λ (l : List ℕ). Steps g.M.Machine.fits c.args.machine.now c.step.new.self c.in-Some.input.now l c.step.new.outputs.items c.in_ok-moved.moved) c.new-again.ensures.items c.in_ok-moved.ensures))
    refl
    (sym c.deref.ensures.value ∙ c.are_same.ensures.0 c.if-not-are_same.false)
    c.in-Some.ensures.whole
    c.in_ok-extend_from_slice.ensures.items

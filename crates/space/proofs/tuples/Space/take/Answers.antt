use Rattle.std.proofs.Common.{None, sym, ap, ◌∙◌}
use Rattle.space.specs.Applying.{found_or_absent}
use Rattle.space.proofs.Finding.{first_of, none_taken, one_taken, one_stored}
use Rattle.space.proofs.tuples.Space.take.Goals as goal

pub returns-in-None-clause-value : goal.returns-in-None-clause-value
returns-in-None-clause-value g c = sym (ap found_or_absent (first_of c.args.self.now c.args.template.now None c.in-None.ensures.value))

pub returns-in-None-clause-state : goal.returns-in-None-clause-state
returns-in-None-clause-state g c = sym (none_taken c.args.self.now c.args.template.now c.in-None.ensures.value)

pub returns-in-Some-remove-clause-value : goal.returns-in-Some-remove-clause-value
returns-in-Some-remove-clause-value g c =
    let s = c.args.self.now in
    let p = c.args.template.now in
    let e = c.in-Some.ensures.value in
    sym (ap found_or_absent (first_of s p _ e ∙ sym (one_stored s p c.oldest_match.ensures.valid _ _ e) ∙ sym c.in-Some-remove.ensures.value))

pub returns-in-Some-remove-clause-state : goal.returns-in-Some-remove-clause-state
returns-in-Some-remove-clause-state g c = c.remove.ensures.state ∙ one_taken c.args.self.now c.args.template.now c.oldest_match.ensures.valid _ _ c.in-Some.ensures.value

pub returns-in-None-remove-clause-value : goal.returns-in-None-remove-clause-value
returns-in-None-remove-clause-value g c =
    let stored = c.in-None-remove.ensures.value ∙ one_stored c.args.self.now c.args.template.now c.oldest_match.ensures.valid _ _ c.in-Some.ensures.value in
    absurd (let g : ⊥ = cc in g)

pub returns-in-None-remove-clause-state : goal.returns-in-None-remove-clause-state
returns-in-None-remove-clause-state g c =
    let stored = c.in-None-remove.ensures.value ∙ one_stored c.args.self.now c.args.template.now c.oldest_match.ensures.valid _ _ c.in-Some.ensures.value in
    absurd (let g : ⊥ = cc in g)

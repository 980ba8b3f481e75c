use Rattle.std.proofs.Common.{refl, arith}
use Rattle.template_match.proofs.TwoWalking.{atom_is}
use Rattle.template_match.proofs.walks.match_atom.Goals as goal

pub returns-then-fields-rest : goal.returns-then-fields-rest
returns-then-fields-rest c =
    let a = atom_is c.args.tag c.args.fields.now c.args.after.now c.in-Some.rest.now c.args.values.now _ _ c.requires (c.in-Some.ensures {u = tt}) (λ i. omega (arith, c.type_inv.after i)) refl refl in
    absurd (omega (arith, a.0))

pub returns-in-Some-strip_front : goal.returns-in-Some-strip_front
returns-in-Some-strip_front c =
    (atom_is c.args.tag c.args.fields.now c.args.after.now c.in-Some.rest.now c.args.values.now _ _ c.requires (c.in-Some.ensures {u = tt}) (λ i. omega (arith, c.type_inv.after i)) c.split_at.ensures.front (c.in-Some-strip_front.ensures {u = tt})).1

pub returns-in-None : goal.returns-in-None
returns-in-None c =
    (atom_is c.args.tag c.args.fields.now c.args.after.now c.in-Some.rest.now c.args.values.now _ _ c.requires (c.in-Some.ensures {u = tt}) (λ i. omega (arith, c.type_inv.after i)) c.split_at.ensures.front (c.in-None.ensures {u = tt})).1

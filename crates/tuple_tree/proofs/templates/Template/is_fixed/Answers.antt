use Rattle.std.proofs.lemmas.Bool.{eqb-true, eq-eqb}
use Rattle.tuple_tree.proofs.Fixing.{fixed_whole}
use Rattle.tuple_tree.proofs.templates.Template.is_fixed.Goals as goal

pub returns : goal.returns
returns g c = let d = fixed_whole c.encoded_len.result c.self.invariant c.self.view_is c.encoded_len.ensures.value in (λ h. d.0 (eqb-true _ _ h), λ o. eq-eqb _ _ (d.1 o))

use Rattle.std.proofs.Common.{◌≡◌, Some, subst}
use Rattle.std.specs.Prelude.{slice_get}
use Rattle.std.specs.Arc.{arc_value}
use Rattle.signing.specs.Publics.{derived_publics}
use Rattle.signing.specs.PublicsView.{publics_of}
use Rattle.signing.proofs.Publics.{known_key}
use Rattle.signing.proofs.public_keys.PublicKeys.keep.Goals as goal

pub keep-requires : goal.keep-requires
keep-requires c =
    let here : slice_get (publics_of c.self.inside.origin) c.args.signer.0 ≡ Some c.args.key = rw (← c.self.view_is) at c.requires in
    let dealt : slice_get (derived_publics (arc_value c.in-Dealt.dealt).seed (arc_value c.in-Dealt.dealt).faults) c.args.signer.0 ≡ Some c.args.key =
    subst (λ origin. slice_get (publics_of origin) c.args.signer.0 ≡ Some c.args.key) c.in-Dealt.is here in
    rw c.deref.ensures (known_key (arc_value c.in-Dealt.dealt).seed (arc_value c.in-Dealt.dealt).faults c.args.signer.0 c.args.key dealt)

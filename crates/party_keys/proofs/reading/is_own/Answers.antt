use Rattle.std.proofs.Common.{Some, ap, sym, ◌∙◌}
use Rattle.std.proofs.lemmas.Slice.Eq.{bytes_eq-Decides}
use Rattle.signing.specs.Signatures.{public_key}
use Rattle.party_keys.proofs.Once.{same_some}
use Rattle.party_keys.proofs.reading.is_own.Goals as goal

pub returns-in-Some : goal.returns-in-Some
returns-in-Some c =
    let equal = bytes_eq-Decides c.in-Some.public c.public.result in
    let got = c.in-Some.ensures {u = tt} in
    let seed = c.public.ensures ∙ ap public_key c.new.ensures in (
      λ h. sym got ∙ ap Some (equal.0 (sym c.eq.ensures ∙ h) ∙ seed),
      λ h. c.eq.ensures ∙ equal.1 (same_some _ _ _ (sym got) h ∙ sym seed),
    )

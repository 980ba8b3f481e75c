use Rattle.std.proofs.Common.{◌∷◌, ◌++◌, ◌∙◌, ap, sym, map}
use Rattle.std.proofs.lemmas.Result.{on_ok_weaker}
use Rattle.wire_format.specs.Messages.{macs}
use Rattle.wire_format.specs.Views.{mac_data, authenticator_data}
use Rattle.wire_format.specs.Spelling.{authenticator_spelling}
use Rattle.wire_format.proofs.Appending.{two}
use Rattle.wire_format.proofs.sealing.put_parts.Goals as goal

pub returns-in-Macs-clause-ok : goal.returns-in-Macs-clause-ok
returns-in-Macs-clause-ok c = on_ok_weaker c.put_macs.result
    (λ e. e ∙ ap (λ ms. c.args.out.now.items ++ authenticator_spelling (macs (map mac_data ms))) c.as_slice.ensures.value ∙ ap (λ p. c.args.out.now.items ++ authenticator_spelling (authenticator_data p)) (sym c.in-Macs.is))
    c.put_macs.ensures.ok

pub returns-in_ok-extend_from_slice-in-Signature-clause-ok : goal.returns-in_ok-extend_from_slice-in-Signature-clause-ok
returns-in_ok-extend_from_slice-in-Signature-clause-ok c =
    two _ _ _ _ _ c.in_ok-push-in-Signature.ensures.items c.in_ok-extend_from_slice-in-Signature.ensures.items
    ∙ ap (λ s. c.args.out.now.items ++ 1 ∷ s) c.as_slice-in-Signature.ensures.value ∙ ap (λ p. c.args.out.now.items ++ authenticator_spelling (authenticator_data p)) (sym c.in-Signature.is)

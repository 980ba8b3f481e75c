use Rattle.std.proofs.Common.{◌≡◌, ◌∙◌, ap}
use Rattle.std.proofs.lemmas.Bool.Decides.{same_from_decides}
use Rattle.wire_format.specs.Spelling.{body_spelling, authenticator_spelling}
use Rattle.terms.specs.Parties.{party_number}
use Rattle.wire_format.specs.Views.{body_data, frame_data, authenticator_data}
use Rattle.authenticator.proofs.Frames.{body-short}
use Rattle.signing.specs.Publics.{public_of}
use Rattle.signing.specs.Signatures.{verifies}
use Rattle.signing.proofs.AuthenticBody.{signs-signature, verifies-Decides}
use Rattle.signing.proofs.public_keys.PublicKeys.has_signature.Goals as goal

pub returns-in-Signature : goal.returns-in-Signature
returns-in-Signature c =
    let body = body_data c.args.frame.now.body in
    let public = public_of c.args.self.now (party_number c.args.frame.now.body.sender) in
    let text : c.body_bytes.result.now ≡ body_spelling body =
    c.body_bytes.ensures.text (body_spelling body) (authenticator_spelling (authenticator_data c.args.frame.now.authenticator)) (body-short c.args.bytes.now (frame_data c.args.frame.now) c.requires) c.requires.spelled in
    let tested : c.verify.result ≡ verifies public c.body_bytes.result.now c.deref.result.now =
    same_from_decides c.verify.result (verifies public c.body_bytes.result.now c.deref.result.now) c.verify.ensures.verified (verifies-Decides public c.body_bytes.result.now c.deref.result.now) in
    record { signed = tested ∙ rw (text, c.deref.ensures.value) (signs-signature public (body_spelling body) c.in-Signature.signature.items (authenticator_data c.args.frame.now.authenticator) (ap authenticator_data c.in-Signature.is)) }

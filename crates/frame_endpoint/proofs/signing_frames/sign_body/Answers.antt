use Rattle.std.proofs.Common.{◌≡◌, [], ◌++◌, ◌<◌, ◌^◌, List, ℕ, length, slice_get, subst, sym, ◌∙◌, ap, append-nil}
use Rattle.tuple_tree.specs.Values.{AreBytes}
use Rattle.wire_format.specs.Messages.{signature}
use Rattle.wire_format.specs.Spelling.{authenticator_spelling, body_spelling, piece}
use Rattle.wire_format.specs.Views.{body_data, message_data}
use Rattle.authenticator.proofs.Frames.{piece-short}
use Rattle.frame_endpoint.proofs.Outgoing.{begins_with_leaf, spells_signed}
use Rattle.frame_endpoint.proofs.signing_frames.sign_body.Goals as goal

pub returns-clause-spells : goal.returns-clause-spells
returns-clause-spells c =
    let text : List ℕ = body_spelling (body_data c.args.body.now) in
    let fits : length text < 2 ^ 32 = piece-short (message_data c.args.body.now.message) text 16578 c.in_ok-frame.ensures.short in
    let is : c.in_ok-frame.frame.items ≡ piece text ++ [] = c.in_ok-frame.ensures.ok ∙ sym (append-nil (piece text)) in
    let shown : c.body_bytes.result.now ≡ text = c.body_bytes.ensures.text text [] fits (c.deref.ensures.value ∙ is) in
    let signed : c.into_bytes.result.items ≡ c.in_ok-signature.signature = c.into_bytes.ensures.value in
    let whole : c.put_authenticator.new.frame.items ≡ piece text ++ authenticator_spelling (signature c.in_ok-signature.signature) =
    c.in_ok-put_authenticator.ensures.ok ∙ ap (λ (x : List ℕ). x ++ authenticator_spelling (signature c.into_bytes.result.items)) c.in_ok-frame.ensures.ok
    ∙ ap (λ (x : List ℕ). piece text ++ authenticator_spelling (signature x)) signed in
    spells_signed c.args.signer.now.seed c.args.signer.now.used (body_data c.args.body.now) c.body_bytes.result.now c.in_ok-signature.signature c.put_authenticator.new.frame.items
    c.requires.said c.requires.signed c.in_ok-frame.ensures.short shown c.in_ok-signature.ensures.verifies whole (subst AreBytes c.deref-2.ensures.value c.note_bytes.ensures)
    (ap (λ (s : List ℕ). slice_get s 0) c.in_ok-signature.ensures.value ∙ begins_with_leaf c.args.signer.now.seed c.args.signer.now.used c.body_bytes.result.now)

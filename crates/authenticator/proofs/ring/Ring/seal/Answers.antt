use Rattle.std.proofs.Common.{◌≡◌, ◌<◌, ◌+◌, ◌^◌, ◌*◌, ◌∙◌, [], ◌++◌, map, length, ap, sym, refl}
use Rattle.std.proofs.lemmas.List.{append-nil, length-map}
use Rattle.wire_format.specs.Spelling.{body_spelling, piece, authenticator_spelling}
use Rattle.wire_format.specs.Messages.{macs}
use Rattle.terms.specs.Parties.{party_number}
use Rattle.wire_format.specs.Views.{body_data, mac_data, message_data}
use Rattle.authenticator.specs.Sealing.{entry_for}
use Rattle.authenticator.proofs.Frames.{piece-short}
use Rattle.authenticator.proofs.Sealing.{counts_fit, sealed-over, sealed-short, sealed-spells, sealed-too_long}
use Rattle.authenticator.proofs.ring.Ring.seal.Goals as goal

pub returns-in-Err-TooLarge-clause-large : goal.returns-in-Err-TooLarge-clause-large
returns-in-Err-TooLarge-clause-large c = (
  λ _. sealed-too_long c.args.self.now.keys (body_data c.args.body.now) (map party_number c.args.receivers.now)
      (rw (length-map c.args.receivers.now party_number) (c.in-Err-TooLarge.ensures.large c.in-Err-TooLarge.field-0-is)),
  λ _. refl,
)

pub returns-clause-sealed : goal.returns-clause-sealed
returns-clause-sealed c =
    let text = body_spelling (body_data c.args.body.now) in
    let front : c.in-Ok.frame.items ≡ piece text = c.in-Ok.ensures.ok in
    let short : length text < 2 ^ 32 = piece-short (message_data c.args.body.now.message) text (2 + 34 * length c.args.receivers.now) c.in-Ok.ensures.short in
    let whole : c.deref.result.now ≡ piece text ++ [] = c.deref.ensures.value ∙ front ∙ sym (append-nil (piece text)) in
    let bytes : c.body_bytes.result.now ≡ text = c.body_bytes.ensures.text text [] short whole in
    let made : map mac_data c.entries-entries.result.items ≡ map (entry_for c.args.self.now.keys (party_number c.args.body.now.sender) text) (map party_number c.args.receivers.now) =
    c.entries-entries.ensures.made ∙ rw (bytes, c.number.ensures) in
    sealed-spells c.args.self.now.keys (body_data c.args.body.now) (map party_number c.args.receivers.now) c.put_authenticator.new.frame.items (map mac_data c.entries-entries.result.items)
    c.requires made c.entries-entries.ensures.formed
    (rw (length-map c.args.receivers.now party_number) c.in-Ok.ensures.short)
    (c.in_ok-put_authenticator.ensures.ok ∙ ap (λ bs. bs ++ authenticator_spelling (macs (map mac_data c.entries-entries.result.items))) front)

pub returns-in-Err-NoMemory-clause-large : goal.returns-in-Err-NoMemory-clause-large
returns-in-Err-NoMemory-clause-large c = (
  λ same. absurd cc,
  λ long.
      let over = sealed-over c.args.self.now.keys (body_data c.args.body.now) (map party_number c.args.receivers.now) long in
      let large = c.in-Err-NoMemory.ensures.memory (rw (length-map c.args.receivers.now party_number) at over) in
      let here = c.in-Err-NoMemory.field-0-is in
      absurd cc,
)

pub returns-in_err-put_authenticator-clause-large : goal.returns-in_err-put_authenticator-clause-large
returns-in_err-put_authenticator-clause-large c = (
  λ same. let kind = rw same at c.from_residual.ensures.1 in absurd cc,
  λ long. absurd
      (sealed-short c.args.self.now.keys (body_data c.args.body.now) (map party_number c.args.receivers.now)
      (rw (length-map c.args.receivers.now party_number) c.in-Ok.ensures.short) long),
)

pub returns-clause-large : goal.returns-clause-large
returns-clause-large c = (
  λ same. absurd cc,
  λ long. absurd
      (sealed-short c.args.self.now.keys (body_data c.args.body.now) (map party_number c.args.receivers.now)
      (rw (length-map c.args.receivers.now party_number) c.in-Ok.ensures.short) long),
)

pub begin_frame-requires-clause-body : goal.begin_frame-requires-clause-body
begin_frame-requires-clause-body c = counts_fit (message_data c.args.body.now.message) c.requires.unsigned

-- The property of a frame that a refusal shows.
use Rattle.std.proofs.Common.{◌≡◌, ◌⊎◌, inl, inr, ℕ, Bool, true, false, cond, List, Option, Some, None, ap, sym, refl, subst, ◌∙◌}
use Rattle.wire_format.specs.Messages.{FrameData}
use Rattle.wire_format.specs.Spelling.{SpellsFrame}
use Rattle.authenticator.specs.declared.sealed.OpenFault.{OpenFault}
use Rattle.authenticator.specs.declared.sealed.OpenFault.TheVariants as faults
use Rattle.wire_format.specs.Messages.{MessageData, request}
use Rattle.wire.specs.Headers.{HeaderData, header_of, asks, HasHeader}
use Rattle.wire.proofs.Whole.{one_frame}
use Rattle.authenticator.specs.Headers.{takes_part, header_refusal}
use Rattle.authenticator.specs.Membership.{Membership, sends, has_sender}
use Rattle.authenticator.specs.Opening.{Opens, RefusesFrame, may_open, frame_refusal}

abbrev by_tests : Bool → Bool → Option OpenFault
by_tests known proved = cond known (cond proved None (Some faults.BadMac)) (Some faults.UnknownSender)

one_fails : (known proved : Bool) (fault : OpenFault) → Some fault ≡ by_tests known proved
    → ((known ≡ false) × (fault ≡ faults.UnknownSender)) ⊎ ((known ≡ true) × (proved ≡ false) × (fault ≡ faults.BadMac))
one_fails true true fault e = absurd (let g : ⊥ = cc in g)
one_fails true false fault e = inr (refl, refl, (let q : fault ≡ faults.BadMac = cc in q))
one_fails false proved fault e = inl (refl, (let q : fault ≡ faults.UnknownSender = cc in q))

both_hold : (known proved : Bool) → None ≡ by_tests known proved → (known ≡ true) × (proved ≡ true)
both_hold true true e = (refl, refl)
both_hold true false e = absurd (let g : ⊥ = cc in g)
both_hold false proved e = absurd (let g : ⊥ = cc in g)

module _ (m : Membership) (party : ℕ) (bytes : List ℕ) (frame : FrameData) (spells : SpellsFrame bytes frame) where
  pub refused : (fault : OpenFault) → Some fault ≡ frame_refusal m party frame → RefusesFrame m party bytes fault
  refused fault e = elim (one_fails (has_sender m frame.body) (may_open m.keys party frame) fault e) [
    | inl k ↦ subst (RefusesFrame m party bytes) (sym k.1) (record { frame = frame; spelled = spells; sender = k.0 })
    | inr k ↦ subst (RefusesFrame m party bytes) (sym k.2) (record { frame = frame; spelled = spells; sender = k.0; proved = k.1 })
  ]

  pub opened : None ≡ frame_refusal m party frame → Opens m party bytes frame
  opened e =
      let k = both_hold (has_sender m frame.body) (may_open m.keys party frame) e in
      record { spelled = spells; sender = k.0; proved = k.1 }

  -- a frame that opens isn't refused
  pub not_refused : (fault : OpenFault) (other : FrameData) → Some fault ≡ frame_refusal m party frame → Opens m party bytes other → frame ≡ other → ⊥
  not_refused fault other e o same =
      let known : has_sender m frame.body ≡ true = ap (λ f. has_sender m f.body) same ∙ o.sender in
      let proved : may_open m.keys party frame ≡ true = ap (may_open m.keys party) same ∙ o.proved in
      let none : frame_refusal m party frame ≡ None = rw (known, proved) refl in
      let g : ⊥ = cc in g

-- ---- by the header

pub sends_so : (m : Membership) (party : ℕ) (message : MessageData) → takes_part m party (asks message) ≡ sends m party message
sends_so m party (request timestamp mode operation) = refl
sends_so m party _ = refl

refusal_so : (m : Membership) (party : ℕ) (frame : FrameData) → header_refusal m party (header_of frame) ≡ frame_refusal m party frame
refusal_so m party frame = ap (λ known. by_tests known (may_open m.keys party frame)) (sends_so m frame.body.sender frame.body.message)

module _ (m : Membership) (party : ℕ) (bytes : List ℕ) (header : HeaderData) (has : HasHeader bytes header) where
  by_header : (o : Option OpenFault) → o ≡ header_refusal m party header → o ≡ frame_refusal m party has.0
  by_header o e = e ∙ ap (header_refusal m party) has.2 ∙ refusal_so m party has.0

  pub header_refused : (fault : OpenFault) → Some fault ≡ header_refusal m party header → RefusesFrame m party bytes fault
  header_refused fault e = refused m party bytes has.0 has.1 fault (by_header (Some fault) e)

  pub header_opened : (frame : FrameData) → SpellsFrame bytes frame → None ≡ header_refusal m party header → Opens m party bytes frame
  header_opened frame s e = subst (Opens m party bytes) (one_frame bytes has.0 frame has.1 s) (opened m party bytes has.0 has.1 (by_header None e))

  pub header_not_refused : (fault : OpenFault) (other : FrameData) → Some fault ≡ header_refusal m party header → Opens m party bytes other → ⊥
  header_not_refused fault other e o = not_refused m party bytes has.0 has.1 fault other (by_header (Some fault) e) o (one_frame bytes has.0 other has.1 o.spelled)

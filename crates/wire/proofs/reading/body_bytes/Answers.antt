use Rattle.std.proofs.Common.{◌∙◌, ap, sym, arith}
use Rattle.std.proofs.lemmas.Option.{none-some}
use Rattle.wire_format.specs.Reading.{piece_at}
use Rattle.wire_format.proofs.Parts.{piece_reads, piece_there}
use Rattle.wire.proofs.Pairs.{same_text}
use Rattle.wire.proofs.reading.body_bytes.Goals as goal

pub returns-in-Some-clause-text : goal.returns-in-Some-clause-text
returns-in-Some-clause-text c text rest short e = same_text _ _ _ _ (sym c.in-Some.ensures ∙ ap piece_at e ∙ piece_there text rest short)

pub returns-in-Some-clause-none : goal.returns-in-Some-clause-none
returns-in-Some-clause-none c none =
    let f = piece_reads.found c.args.frame.now c.in-Some._rest.now c.in-Some.text.now (λ i. omega (arith, c.type_inv.frame i)) c.in-Some.ensures in
    absurd (none c.in-Some.text.now c.in-Some._rest.now f.1.0 f.0.whole)

pub returns-in-None-clause-text : goal.returns-in-None-clause-text
returns-in-None-clause-text c text rest short e = absurd (none-some _ (sym c.in-None.ensures ∙ ap piece_at e ∙ piece_there text rest short))

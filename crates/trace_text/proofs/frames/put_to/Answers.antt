use Rattle.std.proofs.Common.{ap, sym, ◌∙◌, subst}
use Rattle.std.specs.Prelude.{codes}
use Rattle.terms.specs.Parties.{party_number}
use Rattle.wire_format.specs.Messages.{macs}
use Rattle.wire.specs.Headers.{authenticator_bytes_data}
use Rattle.trace_text.specs.Lists.{separated_or}
use Rattle.trace_text.specs.Frames.{party_text}
use Rattle.std.proofs.lemmas.Bool.{false≢true}
use Rattle.tuple_text.specs.Written.{WritesText}
use Rattle.trace_text.proofs.Said.{receivers_said, all_said, nobody_said}
use Rattle.trace_text.proofs.frames.put_to.Goals as goal

pub returns-in-Macs : goal.returns-in-Macs
returns-in-Macs c =
    let h = (c.in-Ok.ensures {u = tt}).found in
    subst (λ t. WritesText c.put_receivers.result c.args.out.now.items t c.put_receivers.new.out.items)
    (ap (separated_or (codes ",") (codes "all") (λ mac. party_text (party_number mac.receiver))) c.as_slice.ensures.value
    ∙ receivers_said c.args.bytes.now h.0 c.copied.result.items h.1 (ap macs c.copied.ensures ∙ sym (ap authenticator_bytes_data c.in-Macs.is) ∙ ap (λ x. x.authenticator) h.2))
    c.put_receivers.ensures

pub returns-in-Signature : goal.returns-in-Signature
returns-in-Signature c =
    let h = (c.in-Ok.ensures {u = tt}).found in
    subst (λ t. WritesText c.append.result c.args.out.now.items t c.append.new.out.items)
    (all_said c.args.bytes.now h.0 c.in-Signature.field-0.now h.1 (sym (ap authenticator_bytes_data c.in-Signature.is) ∙ ap (λ x. x.authenticator) h.2))
    c.append.ensures

pub returns-in-Err : goal.returns-in-Err
returns-in-Err c =
    subst (λ t. WritesText c.append-in-Err.result c.args.out.now.items t c.append-in-Err.new.out.items)
    (nobody_said c.args.bytes.now (λ f s. false≢true ((c.in-Err.ensures {u = tt}).only f s))) c.append-in-Err.ensures

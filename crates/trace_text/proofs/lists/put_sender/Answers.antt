use Rattle.std.proofs.Common.{◌++◌, ap, sym, ◌∙◌, subst, append-nil}
use Rattle.std.proofs.lemmas.Bool.{false≢true}
use Rattle.terms.specs.Parties.{party_number}
use Rattle.tuple_text.specs.Written.{WritesText}
use Rattle.trace_text.proofs.Said.{sender_said, none_said}
use Rattle.trace_text.proofs.lists.put_sender.Goals as goal

pub returns-in-Ok : goal.returns-in-Ok
returns-in-Ok c =
    let h = (c.in-Ok.ensures {u = tt}).found in
    subst (λ t. WritesText c.put_party.result c.args.out.now.items (c.args.gap.now ++ t) c.put_party.new.out.items)
    (sender_said c.args.frame.now h.0 (party_number c.in-Ok.header.sender) h.1 (ap (λ x. x.sender) h.2)) c.put_party.ensures

pub returns-in-Err : goal.returns-in-Err
returns-in-Err c =
    let none = none_said c.args.frame.now (λ f s. false≢true ((c.in-Err.ensures {u = tt}).only f s)) in
    subst (λ t. WritesText c.append.result c.args.out.now.items t c.append.new.out.items)
    (c.as_bytes.ensures.value ∙ sym (append-nil c.args.gap.now) ∙ ap (λ t. c.args.gap.now ++ t) (sym none)) c.append.ensures

use Rattle.std.proofs.Common.{ap, sym, ◌∙◌, subst}
use Rattle.std.specs.Prelude.{codes}
use Rattle.tuple_text.specs.Written.{WritesText}
use Rattle.trace_text.specs.Lists.{separated_or}
use Rattle.trace_text.specs.Frames.{call_text}
use Rattle.trace_text.proofs.Joined.{listed_view}
use Rattle.trace_text.proofs.lists.put_batch.Goals as goal

pub returns : goal.returns
returns c =
    subst (λ t. WritesText c.put_calls.result c.args.out.now.items t c.put_calls.new.out.items)
    (ap (separated_or (codes " ") (codes "null") (λ frame. call_text frame.now)) c.as_slice.ensures.value
    ∙ sym (listed_view (codes " ") call_text (codes "null") (λ frame. frame.now) c.requests-requests.result.items)
    ∙ ap (separated_or (codes " ") (codes "null") call_text) c.requests-requests.ensures.frames)
    c.put_calls.ensures

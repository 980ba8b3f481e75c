use Rattle.std.proofs.Common.{◌≡◌, ◌∙◌, ap, sym, Some, false, arith, IsTrue}
use Rattle.template_match.proofs.Stripping.{strip_short, strip_same, strip_differs}
use Rattle.template_match.proofs.strip.strip_front.Goals as goal

pub returns-then-bytes-front : goal.returns-then-bytes-front
returns-then-bytes-front c = strip_short c.args.front.now c.args.bytes.now (omega arith)

pub returns-then-same_bytes : goal.returns-then-same_bytes
returns-then-same_bytes c =
    strip_same c.args.front.now c.args.bytes.now (sym c.split_at.ensures.front ∙ c.same_bytes.ensures.0 c.if-same_bytes.true)
    ∙ ap Some (sym c.split_at.ensures.back)

pub returns-else-same_bytes : goal.returns-else-same_bytes
returns-else-same_bytes c =
    strip_differs c.args.front.now c.args.bytes.now
    (λ e. let h : IsTrue c.same_bytes.result = c.same_bytes.ensures.1 (c.split_at.ensures.front ∙ e) in let f : c.same_bytes.result ≡ false = c.if-same_bytes.false in cc)

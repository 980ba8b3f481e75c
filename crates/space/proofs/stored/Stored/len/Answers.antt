use Rattle.std.proofs.Common.{◌≡◌, length, ap, sym, ◌∙◌, arith}
use Rattle.space.proofs.InOrder.{length-in_order}
use Rattle.space.proofs.stored.Stored.len.Goals as goal

pub returns : goal.returns
returns c =
    let es = c.self.inside.entries.items in
    let whole : c.len.result ≡ length es = omega arith in
    whole ∙ sym (length-in_order es c.self.invariant.apart) ∙ ap (λ s. length s.entries) c.self.view_is

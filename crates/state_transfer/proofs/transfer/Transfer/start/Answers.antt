use Rattle.std.proofs.Common.{rules, refl, length, ap, ◌∙◌, arith}
use Rattle.state_transfer.proofs.Starting.{all_untold}
use Rattle.state_transfer.proofs.transfer.Transfer.start.Goals as goal

pub invariant_of-result : goal.invariant_of-result
invariant_of-result c = record {
  pages = ap length c.in_ok-held.ensures ∙ c.page-first.ensures.count;
  fetched = search rules;
  parts = search rules;
  root = λ x e. cc;
  told = rw c.in_ok-page_digests.ensures.items all_untold;
  place = rw c.root.ensures (omega arith);
  wanted = rw c.root.ensures refl;
}

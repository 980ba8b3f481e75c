use Rattle.std.proofs.Common.{List, ℕ, set, map, ap, sym, ◌∙◌}
use Rattle.std.specs.Arc.{arc_value}
use Rattle.std.proofs.lemmas.List.{length-set, map-set}
use Rattle.sha2.specs.Sha256.{sha256}
use Rattle.partition_tree.proofs.Holding.{held-set}
use Rattle.partition_tree.specs.Texts.{texts_of}
use Rattle.partition_tree.proofs.part.Part.set.Goals as goal

pub invariant_of-self : goal.invariant_of-self
invariant_of-self c =
    let texts = c.self.inside.texts.items in
    let text = c.args.text.items in
    let holds = c.in_ok-self-inside.ensures.ok ∙ c.after-text.ensures in (
      rw length-set c.self.invariant.0,
      c.set.ensures
          ∙ ap (λ ds. set ds c.args.child c.digest-digest.result) c.self.invariant.1
          ∙ ap (set (map sha256 (texts_of texts)) c.args.child) (c.digest-digest.ensures ∙ ap sha256 c.after-text.ensures)
          ∙ sym (map-set sha256 (texts_of texts) c.args.child text)
          ∙ ap (map sha256) (sym (held-set arc_value texts c.args.child c.in_ok-self-inside.field-0 text holds)),
    )

pub returns-clause-ok : goal.returns-clause-ok
returns-clause-ok c =
    held-set arc_value c.self.inside.texts.items c.args.child c.in_ok-self-inside.field-0 c.args.text.items (c.in_ok-self-inside.ensures.ok ∙ c.after-text.ensures)
    ∙ ap (λ (texts : List (List ℕ)). set texts c.args.child c.args.text.items) c.self.view_is

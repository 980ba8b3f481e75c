use Rattle.std.proofs.Common.{ap, ◌∙◌}
use Rattle.journal.proofs.Appending.{kept_empty}
use Rattle.journal.proofs.locked.Journal.take.Goals as goal

pub invariant_of-self : goal.invariant_of-self
invariant_of-self g c =
    (kept_empty g.N.Naming.config _ c.self.inside.limit (ap (λ v. v.items) c.replace.ensures.after ∙ c.new.ensures.items), tt)

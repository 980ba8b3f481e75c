use Rattle.std.proofs.Common.{◌≡◌, map, subst}
use Rattle.sha2.specs.Sha256.{sha256}
use Rattle.pq_sets.specs.PqSetsView.{PqSetsData, digests_of}
use Rattle.pq_sets.proofs.KeptPqSets.{texts_named}
use Rattle.pq_sets.proofs.pq_sets.PqSets.batches.Goals as goal

pub returns-clause-named : goal.returns-clause-named
returns-clause-named c = subst (λ (d : PqSetsData). map sha256 d.texts ≡ digests_of d.logged) c.self.view_is (texts_named c.self.inside.logged.items)

use Rattle.std.specs.Prelude.{nat_lt}
use Rattle.std.proofs.Common.{rules, List, sym, ap, ◌∙◌, subst}
use Rattle.std.proofs.lemmas.Fn.{filter_same}
use Rattle.wire_format.specs.Lists.{Each}
use Rattle.pq_sets.specs.declared.pq_entry.PqEntry.{PqEntry}
use Rattle.pq_sets.specs.PqSetsView.{pq_entries_of, texts_in, IsAmongTexts}
use Rattle.pq_sets.proofs.KeptPqSets.{texts_left}
use Rattle.pq_sets.proofs.Placing.{cut_is}
use Rattle.pq_sets.proofs.pq_sets.keep_above.Goals as goal

pub returns-clause-pq_set : goal.returns-clause-pq_set
returns-clause-pq_set c = ap pq_entries_of (filter_same _ _ _ (λ x b f' k. search rules) _ _ c.retain.ensures.filtered) ∙ cut_is c.args.low.0 _

pub returns-clause-texts : goal.returns-clause-texts
returns-clause-texts c =
    subst (λ (xs : List PqEntry). Each (IsAmongTexts (texts_in c.args.pq_set.now.items)) (texts_in xs)) (sym (filter_same _ _ _ (λ x b f' k. search rules) _ _ c.retain.ensures.filtered))
    (texts_left (λ x. nat_lt c.args.low.0 x.entry.number.0) c.args.pq_set.now.items)

use Rattle.std.proofs.Common.{rules, map, nat_le, ap, ◌∙◌}
use Rattle.std.proofs.lemmas.Fn.{filter_same}
use Rattle.replica_histories.specs.Desk.{kept_from}
use Rattle.desk.specs.declared.snapshots.KeptState.{KeptState}
use Rattle.desk.specs.SnapshotsView.{kept_data}
use Rattle.desk.proofs.KeptStates.{kept_above}
use Rattle.std.proofs.Common.{sym, subst}
use Rattle.desk.specs.Keeping.{AreFew}
use Rattle.desk.specs.SnapshotsView.{snapshots_data}
use Rattle.desk.proofs.Newest.{few_from}
use Rattle.desk.proofs.snapshots.Snapshots.drop_below.Goals as goal

pub returns : goal.returns
returns c =
    ap (map kept_data) (filter_same _ (λ (x : KeptState). nat_le c.args.low.0 x.number.0) _ (λ x b f' k. search rules) _ _ c.retain.ensures.filtered)
    ∙ kept_above c.args.low.0 c.self.inside.kept.items ∙ ap (kept_from c.args.low.0) c.self.view_is

pub invariant_of-self : goal.invariant_of-self
invariant_of-self c =
    let e = ap (map kept_data) (filter_same _ (λ (x : KeptState). nat_le c.args.low.0 x.number.0) _ (λ x b f' k. search rules) _ _ c.retain.ensures.filtered) ∙ kept_above c.args.low.0 c.self.inside.kept.items in
    subst AreFew (sym e) (few_from c.args.low.0 (snapshots_data c.self.inside) c.self.invariant)

use Rattle.std.proofs.Common.{◌≡◌, ℕ, ap, ◌∙◌}
use Rattle.ordering.specs.Log.{LogData, cut_to}
use Rattle.pq_sets.specs.Recording.{above_mark}
use Rattle.orderer.specs.State.{OrdererData}
use Rattle.orderer.specs.OrdererView.{orderer_data}
use Rattle.orderer.proofs.Batches.{log_cut}
use Rattle.orderer.proofs.orderer.Orderer.cut.Goals as goal

pub returns : goal.returns
returns c =
    let old : OrdererData = orderer_data c.self.inside in
    let low : c.low.result.0 ≡ (cut_to old.log c.args.low.0).low = c.low.ensures.value ∙ ap (λ (log : LogData). log.low) c.cut.ensures in
    rw (← c.self.view_is) (
      c.cut-2.new.self,
      record {
        prepared = c.cut-2.ensures.prepared ∙ ap (λ (n : ℕ). above_mark n old.pq_sets.prepared) low;
        logged = c.cut-2.ensures.logged ∙ ap (λ (n : ℕ). above_mark n old.pq_sets.logged) low;
        texts = c.cut-2.ensures.texts;
      },
      ap (λ (log : LogData). let new : OrdererData = record old { log = log; pq_sets = c.cut-2.new.self } in new) c.cut.ensures,
    )

pub invariant_of-self : goal.invariant_of-self
invariant_of-self c = log_cut (orderer_data c.self.inside) c.args.low.0 c.cut.new.self c.cut-2.new.self c.self.invariant c.keeps.ensures c.cut.ensures c.cut-2.ensures.texts

use Rattle.std.proofs.Common.{rules, ◌≡◌, sym, ap, ◌∙◌}
use Rattle.orderer.specs.ViewChangeOut.{target_view}
use Rattle.orderer.specs.OrdererView.{orderer_data}
use Rattle.orderer.proofs.Batches.{joins_next, joins_none, joins_others}
use Rattle.orderer.proofs.orderer.Orderer.joined_view.Goals as goal

pub returns : goal.returns
returns c =
    let o = orderer_data c.self.inside in
    let aimed : c.target_view.result.0 ≡ target_view o = c.target_view.ensures ∙ ap target_view (sym c.self.view_is) in
    record {
      above = rw (← c.self.view_is) (joins_next o c.me.result.0 c.target_view.result c.joined_view.result c.note_held.ensures aimed c.joined_view.ensures);
      none = rw (← c.self.view_is) (joins_none o c.me.result.0 c.target_view.result c.joined_view.result c.self.invariant c.note_held.ensures (search rules) aimed c.joined_view.ensures);
      joined = rw (← c.self.view_is) (joins_others o c.me.result.0 c.target_view.result c.joined_view.result c.self.invariant c.note_held.ensures (search rules) aimed c.joined_view.ensures);
    }

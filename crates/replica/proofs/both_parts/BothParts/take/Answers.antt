use Rattle.std.proofs.Common.{rules, ap, ◌∙◌, option_map}
use Rattle.wire_format.specs.Views.{body_data}
use Rattle.replica.specs.BothPartsView.{both_parts_data}
use Rattle.replica.proofs.Beginning.{silence_dropped}
use Rattle.replica.proofs.ChangesCome.{change_held}
use Rattle.replica.proofs.both_parts.BothParts.take.Goals as goal

pub returns-in_default : goal.returns-in_default
returns-in_default c = record {
  ok = rw (c.requires.first, c.in_ok-sender.ensures.same, ← c.self.view_is)
      (silence_dropped (both_parts_data c.self.inside) c.args.bytes.now c.self.invariant
      (c.in_ok-sender.ensures.authentic ∙ ap (option_map body_data) c.in_default.is));
  party = search rules;
}

pub returns-then-has_frame-clause-ok : goal.returns-then-has_frame-clause-ok
returns-then-has_frame-clause-ok c =
    let h = c.has_frame.ensures.held c.if-has_frame.true in
    rw (c.requires.first, ← c.self.view_is)
    (change_held (both_parts_data c.self.inside) c.args.bytes.now h.0 c.self.invariant c.judges.ensures.alike c.judges.ensures.changes
    h.1)

use Rattle.std.proofs.Common.{arith, inl, inr, sym, ap, ◌∙◌, rules}
use Rattle.events.specs.EntryView.{entry_of_kind}
use Rattle.points.proofs.Collecting.{noted_known, noted_new}
use Rattle.points.proofs.batches.note.Goals as goal

pub returns-then-number-eq0 : goal.returns-then-number-eq0
returns-then-number-eq0 c =
    noted_known _ _ _ c.args.entry.now c.args.found.now.entries (ap entry_of_kind (sym c.in-Executed.is) ∙ c.kind.ensures.says) (inl (omega arith))

pub returns-then-contains_key : goal.returns-then-contains_key
returns-then-contains_key c =
    noted_known _ _ _ c.args.entry.now c.args.found.now.entries (ap entry_of_kind (sym c.in-Executed.is) ∙ c.kind.ensures.says)
    (inr (sym c.contains_key.ensures ∙ c.if-contains_key.true))

pub returns-in-Ok : goal.returns-in-Ok
returns-in-Ok c =
    noted_new _ _ _ c.args.entry.now c.as_slice.result c.args.found.now.entries _ (ap entry_of_kind (sym c.in-Executed.is) ∙ c.kind.ensures.says)
    c.as_slice.ensures.value (omega arith) (search rules) (c.in-Ok.ensures {u = tt}).entries
